-- The names in sight in the check, in a run on any store, and in the reference: related name by name.
use Rattle.std.proofs.Common.{◌≡◌, ℕ, ◌+◌, ◌≤◌, Bool, true, false, cond, List, [], ◌∷◌, length, Some, None, Option, Result, sym, refl, ◌∙◌, subst, inl, inr, arith}
use mathlib.Core.Option.{Option as Found, some}
use Rattle.std.proofs.lemmas.Bool.{false≢true}
use Rattle.language.specs.declared.values.Scalar.{Scalar}
use Rattle.language.specs.declared.values.Value.{Value}
use Rattle.language.specs.declared.values.Stop.{Stop}
use Rattle.language.specs.Values.{initial_value}
use Rattle.language.specs.Same.{same}
use Rattle.language.specs.Memory.{Memory, live}
use Rattle.language.specs.Sight.{Sight, look, member, without, Bound, find, placed}
use Rattle.language.specs.Sight as S
use Rattle.language.specs.Tree.{Decl, Com}
use Rattle.language.specs.Names.{Entry, variable, procedure, types, variables}
use Rattle.language.specs.Reference as R
use Rattle.language.specs.Runs.{Step, Env}
use Rattle.language.proofs.Binds.{no_some}
use Rattle.language.proofs.Sameness.{member_through}
use Rattle.language.proofs.Sim.{Sim}
use Rattle.language.proofs.World.{overlay, Typed, Fine, Where, pushed}

-- more locations on top
pub data Grows (ls : List ℕ) (ts : List Scalar) : List ℕ → List Scalar → Type 0 where
  as_is : Grows ls ts ls ts
  push : {xs : List ℕ} {us : List Scalar} (l : ℕ) (t : Scalar) → Grows ls ts xs us → Grows ls ts (l ∷ xs) (t ∷ us)

grow_where : (k l : ℕ) (t : Scalar) {ls : List ℕ} {ts : List Scalar} {xs : List ℕ} {us : List Scalar} → Grows ls ts xs us → Where k l t ls ts → Where k l t xs us
grow_where k l t as_is w = w
grow_where k l t (push x s g) w = inr (grow_where k l t g w)

grows_on : {ls xs : List ℕ} {ts us : List Scalar} {ys : List ℕ} {ws : List Scalar} → Grows ls ts xs us → Grows xs us ys ws → Grows ls ts ys ws
grows_on g as_is = g
grows_on g (push x s h) = push x s (grows_on g h)

-- a store at a stop: only the values of the run's own locations may differ
abbrev pub Back : Memory → List ℕ → List Scalar → Memory → Type 0
Back σ ls ts τ = (ws : List Value) × Typed ls ts ws × (τ ≡ overlay σ ls ws)

-- a command's run from the values vs and u units, held to the reference's outcome x
abbrev pub Runs : ℕ → Memory → List ℕ → List Scalar → ℕ → Step (Unit {0}) → List Value → ℕ → Result R.Left Stop → Type 0
Runs limit σ ls ts fuel m vs u x =
    Sim {A = Unit {0}} {X = R.Left} limit (Back σ ls ts) m (overlay σ ls vs) u (λ _ y. overlay σ ls y.0) (λ _ y. y.1) (λ _ y. Typed ls ts y.0 × (y.1 ≤ fuel)) x

-- arguments: their places in the reference, their locations and their types
abbrev pub Matched : List ℕ → List ℕ → List Scalar → List ℕ → List Scalar → Type 0
Matched [] [] [] ls ts = Unit {0}
Matched [] [] (u ∷ us) ls ts = ⊥
Matched [] (x ∷ xs) us ls ts = ⊥
Matched (k ∷ ks) [] us ls ts = ⊥
Matched (k ∷ ks) (x ∷ xs) [] ls ts = ⊥
Matched (k ∷ ks) (x ∷ xs) (u ∷ us) ls ts = Where k x u ls ts × Matched ks xs us ls ts

abbrev pub places : List Decl → List ℕ → R.Env → R.Env
places [] ks ρ = ρ
places (f ∷ fs) [] ρ = ρ
places (f ∷ fs) (k ∷ ks) ρ = places fs ks (R.place f.name k ρ)

-- what a procedure does wherever more locations are taken than at its declaration, and there is room for its need
abbrev pub Performs : ℕ → Memory → List ℕ → List Scalar → List Scalar → ℕ → (List ℕ → Step (Unit {0})) → List Decl → Com → R.Env → Type 0
Performs limit σ ls ts tys n g fs c seen =
    (ls' : List ℕ) (ts' : List Scalar) → Grows ls ts ls' ts' → Fine σ ls' → live σ + length ls' + n ≤ limit
    → (ks xs : List ℕ) → Matched ks xs tys ls' ts'
    → (vs : List Value) (fuel u : ℕ) → Typed ls' ts' vs → u ≤ fuel
    → Runs limit σ ls' ts' fuel (g xs) vs u (R.exec fuel (places fs ks seen) c vs u)

pub data Rel (limit : ℕ) (σ : Memory) (ls : List ℕ) (ts : List Scalar) : Entry → Found (Bound (Step (Unit {0}))) → R.Found → Type 1 where
  a_variable : (l k : ℕ) (t : Scalar) → Where k l t ls ts → Rel limit σ ls ts (variable t) (some (S.place l)) (R.a_place k)
  a_procedure : (k n : ℕ) (tys : List Scalar) (g : List ℕ → Step (Unit {0})) (fs : List Decl) (c : Com) (seen : R.Env)
      → k ≡ length tys → length fs ≡ length tys → Performs limit σ ls ts tys n g fs c seen
      → Rel limit σ ls ts (procedure tys n) (some (S.procedure k g)) (R.a_proc fs c seen)

pub record Related (limit : ℕ) (σ : Memory) (ls : List ℕ) (ts : List Scalar) (Γ : Sight Entry) (ρ : Env) (ρ' : R.Env) : Type 1 where
  pub named : (m : ℕ) (e : Entry) → look m Γ ≡ Some e → Rel limit σ ls ts e (find m ρ) (R.look m ρ')

module _ {limit : ℕ} {σ : Memory} where
  grow_rel : {ls xs : List ℕ} {ts us : List Scalar} → Grows ls ts xs us → {e : Entry} {b : Found (Bound (Step (Unit {0})))} {f : R.Found} → Rel limit σ ls ts e b f → Rel limit σ xs us e b f
  grow_rel g (a_variable l k t w) = a_variable l k t (grow_where k l t g w)
  grow_rel g (a_procedure k n tys h fs c seen ek el p) = a_procedure k n tys h fs c seen ek el (λ ls' ts' g'. p ls' ts' (grows_on g g'))

  pub grow_env : {ls xs : List ℕ} {ts us : List Scalar} → Grows ls ts xs us → {Γ : Sight Entry} {ρ : Env} {ρ' : R.Env} → Related limit σ ls ts Γ ρ ρ' → Related limit σ xs us Γ ρ ρ'
  grow_env g r = record { named = λ m e q. grow_rel g (r.named m e q) }

  cons_rel : {ls : List ℕ} {ts : List Scalar} (t : Bool) (e e' : Entry) (o : Option Entry) (b : Bound (Step (Unit {0}))) (b' : Found (Bound (Step (Unit {0})))) (f f' : R.Found)
      → Rel limit σ ls ts e' (some b) f → (o ≡ Some e → Rel limit σ ls ts e b' f')
      → cond t (Some e') o ≡ Some e → Rel limit σ ls ts e (cond t (some b) b') (cond t f f')
  cons_rel {ls} {ts} true e e' o b b' f f' r k q = let p : e' ≡ e = cc in subst (λ e. Rel limit σ ls ts e (some b) f) p r
  cons_rel false e e' o b b' f f' r k q = k q

  pub place_env : {ls : List ℕ} {ts : List Scalar} {Γ : Sight Entry} {ρ : Env} {ρ' : R.Env} (m l k : ℕ) (t : Scalar) → Where k l t ls ts → Related limit σ ls ts Γ ρ ρ'
      → Related limit σ ls ts ((m, variable t) ∷ Γ) ((m, S.place l) ∷ ρ) (R.place m k ρ')
  place_env {Γ} {ρ} {ρ'} m l k t w r =
      record
      { named = λ x e q. cons_rel (same x m) e (variable t) (look x Γ) (S.place l) (find x ρ) (R.a_place k) (R.look x ρ') (a_variable l k t w) (r.named x e) q }

  pub proc_env : {ls : List ℕ} {ts : List Scalar} {Γ : Sight Entry} {ρ : Env} {ρ' : R.Env} (m k n : ℕ) (tys : List Scalar) (g : List ℕ → Step (Unit {0})) (fs : List Decl) (c : Com) (seen : R.Env)
      → k ≡ length tys → length fs ≡ length tys → Performs limit σ ls ts tys n g fs c seen → Related limit σ ls ts Γ ρ ρ'
      → Related limit σ ls ts ((m, procedure tys n) ∷ Γ) ((m, S.procedure k g) ∷ ρ) (R.proc m fs c seen ρ')
  proc_env {Γ} {ρ} {ρ'} m k n tys g fs c seen ek el p r =
      record {
        named = λ x e q. cons_rel (same x m) e (procedure tys n) (look x Γ) (S.procedure k g) (find x ρ) (R.a_proc fs c seen) (R.look x ρ')
            (a_procedure k n tys g fs c seen ek el p) (r.named x e) q;
      }

  -- a procedure's formals
  pub formals_env : {ls : List ℕ} {ts : List Scalar} {Γ : Sight Entry} {ρ : Env} {ρ' : R.Env} (fs : List Decl) (ks xs : List ℕ) → Matched ks xs (types fs) ls ts
      → Related limit σ ls ts Γ ρ ρ' → Related limit σ ls ts (variables fs Γ) (placed fs xs ρ) (places fs ks ρ')
  formals_env [] ks xs p r = r
  formals_env (f ∷ fs) [] [] p r = absurd p
  formals_env (f ∷ fs) [] (x ∷ xs) p r = absurd p
  formals_env (f ∷ fs) (k ∷ ks) [] p r = absurd p
  formals_env (f ∷ fs) (k ∷ ks) (x ∷ xs) p r = formals_env fs ks xs p.1 (place_env f.name x k f.type p.0 r)

  -- a block's variables
  pub block_env : {ls : List ℕ} {ts : List Scalar} {Γ : Sight Entry} {ρ : Env} {ρ' : R.Env} (ds : List Decl) (xs : List ℕ) (vs : List Value)
      → length xs ≡ length ds → length vs ≡ length ls → Related limit σ ls ts Γ ρ ρ'
      → Related limit σ (pushed xs ls) (pushed (types ds) ts) (variables ds Γ) (placed ds xs ρ) (R.allot ds ρ' vs).0
  block_env [] [] vs el ev r = r
  block_env [] (x ∷ xs) vs el ev r = absurd (omega arith)
  block_env (d ∷ ds) [] vs el ev r = absurd (omega arith)
  block_env (d ∷ ds) (x ∷ xs) vs el ev r =
      block_env ds xs (initial_value d.type ∷ vs) (omega arith) (omega arith)
      (place_env d.name x (length vs) d.type (inl (ev, refl, refl)) (grow_env (push x d.type as_is) r))

-- fewer names in sight
gone : (ms : List ℕ) (m : ℕ) (Γ : Sight Entry) → member m ms ≡ true → look m (without ms Γ) ≡ None
gone ms m [] h = refl
gone ms m (x ∷ Γ) h = go (member x.0 ms) refl (gone ms m Γ h)
  where
    other : (b : Bool) → same m x.0 ≡ b → member x.0 ms ≡ false → look m (without ms Γ) ≡ None → cond b (Some x.1) (look m (without ms Γ)) ≡ None
    other true q p ih = absurd (false≢true (sym p ∙ (sym (member_through m x.0 ms q) ∙ h)))
    other false q p ih = ih

    go : (b : Bool) → member x.0 ms ≡ b → look m (without ms Γ) ≡ None → look m (cond b (without ms Γ) (x ∷ without ms Γ)) ≡ None
    go true p ih = ih
    go false p ih = other (same m x.0) refl p ih

still : (ms : List ℕ) (m : ℕ) (Γ : Sight Entry) (e : Entry) → look m (without ms Γ) ≡ Some e → look m Γ ≡ Some e
still ms m [] e h = h
still ms m (x ∷ Γ) e h = go (member x.0 ms) refl (still ms m Γ e) h
  where
    other : (b : Bool) → same m x.0 ≡ b → member x.0 ms ≡ true → look m (without ms Γ) ≡ Some e → look m Γ ≡ Some e → cond b (Some x.1) (look m Γ) ≡ Some e
    other true q p h ih = absurd (no_some e (sym (gone ms m Γ (member_through m x.0 ms q ∙ p)) ∙ h))
    other false q p h ih = ih

    here : (b : Bool) → cond b (Some x.1) (look m (without ms Γ)) ≡ Some e → (look m (without ms Γ) ≡ Some e → look m Γ ≡ Some e) → cond b (Some x.1) (look m Γ) ≡ Some e
    here true h ih = h
    here false h ih = ih h

    go : (b : Bool) → member x.0 ms ≡ b → (look m (without ms Γ) ≡ Some e → look m Γ ≡ Some e) → look m (cond b (without ms Γ) (x ∷ without ms Γ)) ≡ Some e → look m (x ∷ Γ) ≡ Some e
    go true p ih h = other (same m x.0) refl p h (ih h)
    go false p ih h = here (same m x.0) h ih

pub without_env : {limit : ℕ} {σ : Memory} {ls : List ℕ} {ts : List Scalar} {Γ : Sight Entry} {ρ : Env} {ρ' : R.Env} (ms : List ℕ) → Related limit σ ls ts Γ ρ ρ' → Related limit σ ls ts (without ms Γ) ρ ρ'
without_env {Γ} ms r = record { named = λ m e q. r.named m e (still ms m Γ e q) }
