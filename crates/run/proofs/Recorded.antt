-- What the records of variables and procedures stand for, and what they weigh.
use Rattle.std.proofs.Common.{◌≡◌, ℕ, zero, suc, ◌+◌, ◌-◌, ◌<◌, ◌≤◌, Bool, true, false, eqb, ◌≢◌, List, ◌∷◌, length, sym, refl, ap, ◌∙◌, arith, eqb-true}
use borrow.Author.Tests.{eqb-false}
use Rattle.language.specs.declared.tables.Node.{Node}
use Rattle.language.specs.Tree.{Procs}
use Rattle.language.specs.Sight.{place, placed}
use Rattle.language.specs.Runs.{procedures}
use Rattle.table.specs.Stretches.{node_at}
use Rattle.table.specs.Walk.{start_at}
use Rattle.run.specs.declared.bindings.Binding.TheVariants.{Place, Procedure}
use Rattle.run.specs.Names.{VariablesAt, Records, record_at, Linked, SameBelow, weights, weight, locations_from, location_of}
use Rattle.run.specs.Shapes.{Forest, back, row, procs_at, decls_at, decl_at, ProcsBefore}
use Rattle.run.specs.Machine.{ProceduresIn, VariablesIn, head, env_at, bound_of, ProceduresOk, ProcedureOk}
use Rattle.run.proofs.Sights.{env_step, weights_step, weights_same, length_locations}
use Rattle.run.proofs.Steps.{placed_snoc}
use Rattle.run.proofs.Opens.{length_row}
use Rattle.run.proofs.Declared.{head_low}

module _ (ns : List Node) (ls : List ℕ) (rs : Records) (m p : ℕ) (pm : p ≤ m) where
  pub procedures_linked : (e n : ℕ) → ProceduresIn ns ls rs m p e n → Linked rs m → Linked rs (m + n)
  unfolding ProceduresIn
  procedures_linked e zero d l k lt = l k (omega arith)
  procedures_linked e (suc n) d l k lt = go (eqb k (m + n)) refl (procedures_linked (start_at ls (e - 1)) n d.3 l k)
    where
      go : (b : Bool) → eqb k (m + n) ≡ b → (k < m + n → (record_at rs k).next ≤ k) → (record_at rs k).next ≤ k
      go true q r =
          let z : k ≡ m + n = eqb-true k (m + n) q in
          let le : head m p n ≤ m + n = head_low m p n pm in
          rw (z, d.2) le
      go false q r = let z : k ≢ m + n = eqb-false k (m + n) q in r (omega arith)

  pub procedures_env : (L : ℕ) (F : Forest) (e n : ℕ) (ps : Procs) → ProceduresIn ns ls rs m p e n
      → procedures L (env_at L ns ls F rs p) (procs_at ns ls F e n ps) (env_at L ns ls F rs p) ≡ procedures L (env_at L ns ls F rs p) ps (env_at L ns ls F rs (head m p n))
  unfolding ProceduresIn procs_at
  procedures_env L F e zero ps d = refl
  procedures_env L F e (suc n) ps d =
      let back₁ : m + suc n - 1 ≡ m + n = omega arith in
      let le : head m p n ≤ m + n = head_low m p n pm in
      let low : (record_at rs (m + suc n - 1)).next ≤ m + suc n - 1 = rw (back₁, d.2) le in
      let seen : (i q : ℕ) → (record_at rs (m + suc n - 1)).entry ≡ Procedure i q → q ≤ m + suc n - 1 = λ i q w.
      let w' : Procedure (e - 1) p ≡ Procedure i q = sym d.1 ∙ (rw back₁ at w) in
      let same : q ≡ p = cc in
      omega arith in
      let step = env_step L ns ls F rs (m + suc n) (omega arith) low seen in
      let step' : env_at L ns ls F rs (m + suc n) ≡ ((node_at ns (e - 1)).name, bound_of L ns ls F (env_at L ns ls F rs) (Procedure (e - 1) p)) ∷ env_at L ns ls F rs (head m p n)
      = rw (d.0, d.1, d.2) at (rw back₁ at step) in
      procedures_env L F (start_at ls (e - 1)) n _ d.3 ∙ rw step' refl

  pub procedures_weigh : (e n : ℕ) → ProceduresIn ns ls rs m p e n → ProcsBefore ns ls e n → weights ls rs (head m p n) + n + back ls e n ≡ weights ls rs p + e
  unfolding ProceduresIn back
  procedures_weigh e zero d c = omega arith
  procedures_weigh e (suc n) d c =
      let back₁ : m + suc n - 1 ≡ m + n = omega arith in
      let le : head m p n ≤ m + n = head_low m p n pm in
      let low : (record_at rs (m + suc n - 1)).next ≤ m + suc n - 1 = rw (back₁, d.2) le in
      let ws : weights ls rs (m + suc n) ≡ (e - 1 - start_at ls (e - 1)) + weights ls rs (head m p n) = rw (d.1, d.2) at (rw back₁ at (weights_step ls rs (m + suc n) (omega arith) low)) in
      let one : 1 ≤ e = c.0 in
      let lt : start_at ls (e - 1) < e = c.2 in
      let ih : weights ls rs (head m p n) + n + back ls (start_at ls (e - 1)) n ≡ weights ls rs p + start_at ls (e - 1) = procedures_weigh (start_at ls (e - 1)) n d.3 c.3 in
      omega arith

  pub procedures_more : (e n : ℕ) → ProceduresIn ns ls rs m p e n → weights ls rs p ≤ weights ls rs (head m p n)
  unfolding ProceduresIn
  procedures_more e zero d = omega arith
  procedures_more e (suc n) d =
      let back₁ : m + suc n - 1 ≡ m + n = omega arith in
      let le : head m p n ≤ m + n = head_low m p n pm in
      let low : (record_at rs (m + suc n - 1)).next ≤ m + suc n - 1 = rw (back₁, d.2) le in
      let ws : weights ls rs (m + suc n) ≡ (e - 1 - start_at ls (e - 1)) + weights ls rs (head m p n) = rw (d.1, d.2) at (rw back₁ at (weights_step ls rs (m + suc n) (omega arith) low)) in
      let ih : weights ls rs p ≤ weights ls rs (head m p n) = procedures_more (start_at ls (e - 1)) n d.3 in
      omega arith

  pub procedures_ok_more : (e n : ℕ) → e ≤ length ns → ProceduresIn ns ls rs m p e n → ProcsBefore ns ls e n → ProceduresOk ns ls rs m → ProceduresOk ns ls rs (m + n)
  unfolding ProceduresIn
  procedures_ok_more e zero h d c r k lt i q w = r k (omega arith) i q w
  procedures_ok_more e (suc n) h d c r k lt i q w = go (eqb k (m + n)) refl (procedures_ok_more (start_at ls (e - 1)) n (omega (arith, c.2)) d.3 c.3 r k)
    where
      go : (b : Bool) → eqb k (m + n) ≡ b → (k < m + n → (i q : ℕ) → (record_at rs k).entry ≡ Procedure i q → ProcedureOk ns ls rs k i q) → ProcedureOk ns ls rs k i q
      go true y x =
          let z : k ≡ m + n = eqb-true k (m + n) y in
          let w' : Procedure (e - 1) p ≡ Procedure i q = sym d.1 ∙ (rw z at w) in
          let same_i : i ≡ e - 1 = cc in
          let same_q : q ≡ p = cc in
          let one : 1 ≤ e = c.0 in
          let ok : ProcedureOk ns ls rs (m + n) (e - 1) p =
          record { at = omega arith; kind = c.1; seen = omega arith; weight = rw d.2 (procedures_more (start_at ls (e - 1)) n d.3) } in
          rw (z, same_i, same_q) ok
      go false y x = let z : k ≢ m + n = eqb-false k (m + n) y in x (omega arith) i q w

-- the variables of a block or the formals of a call, recorded
module _ (ns : List Node) (ls : List ℕ) (s : ℕ) (rs : Records) (m p : ℕ) where
  pub variables_env : (L : ℕ) (F : Forest) (n p' : ℕ) → Linked rs (m + n) → VariablesIn ns s rs m p n p'
      → env_at L ns ls F rs p' ≡ placed (decls_at ns s n) (locations_from rs m n) (env_at L ns ls F rs p)
  unfolding VariablesIn row locations_from
  variables_env L F zero p' l d = rw d refl
  variables_env L F (suc n) p' l d =
      let back₁ : m + n + 1 - 1 ≡ m + n = omega arith in
      let low₀ : (record_at rs (m + n)).next ≤ m + n = l (m + n) (omega arith) in
      let low : (record_at rs (m + n + 1 - 1)).next ≤ m + n + 1 - 1 = rw back₁ low₀ in
      let seen : (i q : ℕ) → (record_at rs (m + n + 1 - 1)).entry ≡ Procedure i q → q ≤ m + n + 1 - 1 = λ i q w.
      let w' : Place (location_of (record_at rs (m + n)).entry) ≡ Procedure i q = sym d.2 ∙ (rw back₁ at w) in
      let z : ◌≡◌ {A = ℕ} 0 1 = cc in absurd (omega arith) in
      let step = rw back₁ at (env_step L ns ls F rs (m + n + 1) (omega arith) low seen) in
      let bound : bound_of L ns ls F (env_at L ns ls F rs) (record_at rs (m + n)).entry ≡ place (location_of (record_at rs (m + n)).entry) =
      ap (bound_of L ns ls F (env_at L ns ls F rs)) d.2 in
      let lens : length (decls_at ns s n) ≡ length (locations_from rs m n) = length_row decl_at ns s n ∙ sym (length_locations rs m n) in
      let ih = variables_env L F n (record_at rs (m + n)).next (λ k lt. l k (omega arith)) d.3 in
      let step' : env_at L ns ls F rs (m + n + 1) ≡ ((node_at ns (s + n)).name, place (location_of (record_at rs (m + n)).entry)) ∷ placed (decls_at ns s n) (locations_from rs m n) (env_at L ns ls F rs p)
      = rw (d.1, bound, ih) at step in
      rw d.0 (step' ∙ sym (placed_snoc (decls_at ns s n) (locations_from rs m n) (decl_at ns (s + n)) (location_of (record_at rs (m + n)).entry) (env_at L ns ls F rs p) lens))

  pub variables_weigh : (n p' : ℕ) → Linked rs (m + n) → VariablesIn ns s rs m p n p' → weights ls rs p' ≡ weights ls rs p
  unfolding VariablesIn
  variables_weigh zero p' l d = rw d refl
  variables_weigh (suc n) p' l d =
      let back₁ : m + n + 1 - 1 ≡ m + n = omega arith in
      let low₀ : (record_at rs (m + n)).next ≤ m + n = l (m + n) (omega arith) in
      let low : (record_at rs (m + n + 1 - 1)).next ≤ m + n + 1 - 1 = rw back₁ low₀ in
      let ws : weights ls rs (m + n + 1) ≡ weight ls (record_at rs (m + n)).entry + weights ls rs (record_at rs (m + n)).next = rw back₁ at (weights_step ls rs (m + n + 1) (omega arith) low) in
      let no : weight ls (record_at rs (m + n)).entry ≡ 0 = ap (weight ls) d.2 in
      let ih : weights ls rs (record_at rs (m + n)).next ≡ weights ls rs p = variables_weigh n (record_at rs (m + n)).next (λ k lt. l k (omega arith)) d.3 in
      rw d.0 (omega arith)

  pub variables_at : (n p' : ℕ) → VariablesIn ns s rs m p n p' → VariablesAt rs m n
  unfolding VariablesIn
  variables_at zero p' d k low lt = absurd (omega arith)
  variables_at (suc n) p' d k low lt = go (eqb k (m + n)) refl (variables_at n (record_at rs (m + n)).next d.3 k low)
    where
      go : (b : Bool) → eqb k (m + n) ≡ b → (k < m + n → (record_at rs k).entry ≡ Place (location_of (record_at rs k).entry)) → (record_at rs k).entry ≡ Place (location_of (record_at rs k).entry)
      go true y x = let z : k ≡ m + n = eqb-true k (m + n) y in rw z d.2
      go false y x = let z : k ≢ m + n = eqb-false k (m + n) y in x (omega arith)

  pub variables_ok_more : (n p' : ℕ) → VariablesIn ns s rs m p n p' → ProceduresOk ns ls rs m → ProceduresOk ns ls rs (m + n)
  unfolding VariablesIn
  variables_ok_more zero p' d r k lt i q w = r k (omega arith) i q w
  variables_ok_more (suc n) p' d r k lt i q w = go (eqb k (m + n)) refl (variables_ok_more n (record_at rs (m + n)).next d.3 r k)
    where
      go : (b : Bool) → eqb k (m + n) ≡ b → (k < m + n → (i q : ℕ) → (record_at rs k).entry ≡ Procedure i q → ProcedureOk ns ls rs k i q) → ProcedureOk ns ls rs k i q
      go true y x =
          let z : k ≡ m + n = eqb-true k (m + n) y in
          let w' : Place (location_of (record_at rs (m + n)).entry) ≡ Procedure i q = sym d.2 ∙ (rw z at w) in
          let e : ◌≡◌ {A = ℕ} 0 1 = cc in absurd (omega arith)
      go false y x = let z : k ≢ m + n = eqb-false k (m + n) y in x (omega arith) i q w

pub ok_same_below : (ns : List Node) (ls : List ℕ) (rs rs' : Records) (M n : ℕ) → SameBelow rs rs' M → n ≤ M → Linked rs n → ProceduresOk ns ls rs n → ProceduresOk ns ls rs' n
ok_same_below ns ls rs rs' M n same h l r k lt i q w =
    let e : record_at rs' k ≡ record_at rs k = same k (omega arith) in
    let ok = r k lt i q (rw e at w) in
    let sn : q ≤ k = ok.seen in
    let low : (record_at rs k).next ≤ k = l k lt in
    let wq : weights ls rs' q ≡ weights ls rs q = weights_same ls rs rs' M q same (omega arith) in
    let wl : weights ls rs' (record_at rs k).next ≡ weights ls rs (record_at rs k).next = weights_same ls rs rs' M (record_at rs k).next same (omega arith) in
    record { at = ok.at; kind = ok.kind; seen = sn; weight = rw (e, wq, wl) ok.weight }
