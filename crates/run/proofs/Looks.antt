-- What the records say of names, and what the environment that they stand for says.
use Rattle.std.proofs.Common.{◌≡◌, ℕ, zero, suc, ◌+◌, ◌-◌, ◌<◌, ◌≤◌, Bool, true, false, List, [], ◌∷◌, length, Some, None, Option, sym, refl, ◌∙◌, arith}
use mathlib.Core.Option.{Option as Found, some, none}
use Rattle.language.specs.declared.tables.Node.{Node}
use Rattle.language.specs.declared.tables.Kind.TheVariants.{Proc}
use Rattle.language.specs.Memory.{Memory}
use Rattle.language.specs.Same.{same}
use Rattle.language.specs.Sight.{Bound, place, procedure, find}
use Rattle.language.specs.Runs.{Step, located}
use Rattle.table.specs.Walk.{start_at}
use Rattle.run.specs.declared.bindings.Binding.{Binding}
use Rattle.run.specs.declared.bindings.Binding.TheVariants.{Place, Procedure}
use Rattle.run.specs.Names.{Records, record_at, found, as_place, sees, Linked, weights, weight}
use Rattle.run.specs.Shapes.{Forest, kind_at}
use Rattle.run.specs.Machine.{outcome, env_at, bound_of, env_in, ProceduresOk}
use Rattle.run.proofs.Sights.{found_here, found_on, found_none, env_step, weights_step}
use Rattle.run.proofs.Walks.{walk_none}
use Rattle.run.proofs.Values.{Sights}

abbrev pub as_bound : (Binding → Bound (Step (Unit {0}))) → Option Binding → Found (Bound (Step (Unit {0})))
as_bound f None = none
as_bound f (Some w) = some (f w)

module _ (ns : List Node) (ls : List ℕ) (rs : Records) (M : ℕ) (n : M ≤ length rs) (l : Linked rs M) (c : ProceduresOk ns ls rs M) where
  module _ (L : ℕ) (F : Forest) (m : ℕ) where
    abbrev Looks : ℕ → Type 1
    Looks p = find m (env_at L ns ls F rs p) ≡ as_bound (bound_of L ns ls F (env_at L ns ls F rs)) (found rs p m)

    looks_zero : (p : ℕ) → p ≤ 0 → Looks p
    looks_zero p h = rw (walk_none [] (env_in L ns ls F rs) p h, found_none rs p m h) refl

    looks_some : (p : ℕ) → 0 < p → p ≤ M → Looks (record_at rs (p - 1)).next → (b : Bool) → same m (record_at rs (p - 1)).name ≡ b → Looks p
    looks_some p h k ih b q =
        let low : (record_at rs (p - 1)).next ≤ p - 1 = l (p - 1) (omega arith) in
        let step = env_step L ns ls F rs p h low (λ i x e. (c (p - 1) (omega arith) i x e).seen) in
        go b q low step
      where
        go : (b : Bool) → same m (record_at rs (p - 1)).name ≡ b → (record_at rs (p - 1)).next ≤ p - 1
            → env_at L ns ls F rs p ≡ ((record_at rs (p - 1)).name, bound_of L ns ls F (env_at L ns ls F rs) (record_at rs (p - 1)).entry) ∷ env_at L ns ls F rs (record_at rs (p - 1)).next
            → Looks p
        go true q low step = rw (step, q, found_here rs p m h (omega arith) low q) refl
        go false q low step = rw (step, q, found_on rs p m h (omega arith) low q) ih

    looks_fuel : (fuel p : ℕ) → p ≤ fuel → p ≤ M → Looks p
    looks_fuel zero p h k = looks_zero p h
    looks_fuel (suc fuel) zero h k = looks_zero zero (omega arith)
    looks_fuel (suc fuel) (suc n) h k =
        let e : suc n - 1 ≡ n = omega arith in
        let low : (record_at rs (suc n - 1)).next ≤ suc n - 1 = l (suc n - 1) (omega arith) in
        looks_some (suc n) (omega arith) k (looks_fuel fuel (record_at rs (suc n - 1)).next (omega arith) (omega arith)) (same m (record_at rs (suc n - 1)).name) refl

    pub looks : (p : ℕ) → p ≤ M → Looks p
    looks p h = looks_fuel p p (omega arith) h

  located_as : (f : Binding → Bound (Step (Unit {0}))) → ((k : ℕ) → f (Place k) ≡ place k) → (o : Option Binding)
      → ((i p : ℕ) → o ≡ Some (Procedure i p) → (n : ℕ) × (k : List ℕ → Step (Unit {0})) × (f (Procedure i p) ≡ procedure n k))
      → (σ : Memory) (u : ℕ) → located (as_bound f o) σ u (outcome (as_place o) σ u)
  located_as f h None g σ u = refl
  located_as f h (Some (Place k)) g σ u = rw (h k) refl
  located_as f h (Some (Procedure i p)) g σ u = let x = g i p refl in rw x.2 refl

  -- the environment says of locations what the records say
  pub sights : (L : ℕ) (F : Forest) (p : ℕ) → p ≤ M → Sights (env_at L ns ls F rs p) (sees rs p)
  sights L F p h m σ u =
      rw (looks L F m p h)
      (located_as (bound_of L ns ls F (env_at L ns ls F rs)) (λ k. refl) (found rs p m) (λ i q e. (_, _, refl)) σ u)

  -- a procedure that is found
  pub record Finds (p i q : ℕ) : Type 0 where
    pub at : i < length ns
    pub kind : kind_at ns i ≡ Some Proc
    pub seen : q ≤ M
    pub weight : (i - start_at ls i) + weights ls rs q ≤ weights ls rs p

  finds_some : (m p i q : ℕ) → 0 < p → p ≤ M → (found rs (record_at rs (p - 1)).next m ≡ Some (Procedure i q) → Finds (record_at rs (p - 1)).next i q)
      → (b : Bool) → same m (record_at rs (p - 1)).name ≡ b → found rs p m ≡ Some (Procedure i q) → Finds p i q
  finds_some m p i q h k ih true b f =
      let low : (record_at rs (p - 1)).next ≤ p - 1 = l (p - 1) (omega arith) in
      let s : Some (record_at rs (p - 1)).entry ≡ Some (Procedure i q) = sym (found_here rs p m h (omega arith) low b) ∙ f in
      let w : (record_at rs (p - 1)).entry ≡ Procedure i q = cc in
      let ok = c (p - 1) (omega arith) i q w in
      let ws : weights ls rs p ≡ weight ls (record_at rs (p - 1)).entry + weights ls rs (record_at rs (p - 1)).next = weights_step ls rs p h low in
      let ww : weight ls (record_at rs (p - 1)).entry ≡ i - start_at ls i = rw w refl in
      let le : weights ls rs q ≤ weights ls rs (record_at rs (p - 1)).next = ok.weight in
      let sn : q ≤ p - 1 = ok.seen in
      record { at = ok.at; kind = ok.kind; seen = omega arith; weight = omega arith }
  finds_some m p i q h k ih false b f =
      let low : (record_at rs (p - 1)).next ≤ p - 1 = l (p - 1) (omega arith) in
      let r = ih (sym (found_on rs p m h (omega arith) low b) ∙ f) in
      let ws : weights ls rs p ≡ weight ls (record_at rs (p - 1)).entry + weights ls rs (record_at rs (p - 1)).next = weights_step ls rs p h low in
      let le : (i - start_at ls i) + weights ls rs q ≤ weights ls rs (record_at rs (p - 1)).next = r.weight in
      record { at = r.at; kind = r.kind; seen = r.seen; weight = omega arith }

  finds_fuel : (m i q fuel p : ℕ) → p ≤ fuel → p ≤ M → found rs p m ≡ Some (Procedure i q) → Finds p i q
  finds_fuel m i q zero p h k f =
      let s : None ≡ Some (Procedure i q) = sym (found_none rs p m h) ∙ f in
      let z : ◌≡◌ {A = ℕ} 0 1 = cc in absurd (omega arith)
  finds_fuel m i q (suc fuel) zero h k f =
      let s : None ≡ Some (Procedure i q) = sym (found_none rs zero m (omega arith)) ∙ f in
      let z : ◌≡◌ {A = ℕ} 0 1 = cc in absurd (omega arith)
  finds_fuel m i q (suc fuel) (suc n) h k f =
      let low : (record_at rs (suc n - 1)).next ≤ suc n - 1 = l (suc n - 1) (omega arith) in
      finds_some m (suc n) i q (omega arith) k (finds_fuel m i q fuel (record_at rs (suc n - 1)).next (omega arith) (omega arith)) (same m (record_at rs (suc n - 1)).name) refl f

  pub finds : (m p i q : ℕ) → p ≤ M → found rs p m ≡ Some (Procedure i q) → Finds p i q
  finds m p i q h f = finds_fuel m i q p p (omega arith) h f
