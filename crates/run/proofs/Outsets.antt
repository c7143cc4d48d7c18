-- The two names that are in sight at the outset, as records.
use Rattle.std.proofs.Common.{◌≡◌, ℕ, zero, suc, ◌-◌, ◌≤◌, ◌≢◌, List, [], ◌∷◌, length, set, Ok, Err, Result, sym, refl, ap, ◌∙◌, subst, arith, length-set, get_or-set_other, get_or-set_same}
use Rattle.language.specs.declared.tables.Node.{Node}
use Rattle.language.specs.declared.values.Stop.{Stop}
use Rattle.language.specs.Memory.{Memory}
use Rattle.language.specs.Runs.{Env, does, ended, stopped}
use Rattle.language.specs.Sight.{place}
use Rattle.language.specs.Table.{build}
use Rattle.language.specs.Tree.{Com}
use Rattle.scope.specs.Calls.{linked}
use Rattle.scope.specs.declared.Record.{Record}
use Rattle.table.specs.Measured.{Lengths}
use Rattle.run.specs.declared.bindings.Binding.{Binding}
use Rattle.run.specs.declared.bindings.Binding.TheVariants.{Place, Procedure}
use Rattle.run.specs.Names.{Records, record_at, no_record, walk, weights}
use Rattle.run.specs.Shapes.{Forest}
use Rattle.run.specs.Machine.{env_at, ProceduresOk, Ran}
use Rattle.run.specs.Parts.{outset_records, Outset, units_left, whole_command}
use Rattle.run.proofs.Standing.{standing}

module _ (rs : Records) (i o : ℕ) (h : 2 ≤ length rs) where
  first : record_at (outset_records rs i o) 0 ≡ linked 0 (Place i) 0
  first =
      let ne : 0 ≢ 1 = omega arith in
      get_or-set_other (set rs 0 (linked 0 (Place i) 0)) 1 0 _ no_record ne ∙ get_or-set_same rs 0 _ no_record (omega arith)

  second : record_at (outset_records rs i o) 1 ≡ linked 1 (Place o) 1
  second =
      let n : length (set rs 0 (linked 0 (Place i) 0)) ≡ length rs = length-set rs 0 _ in
      get_or-set_same (set rs 0 (linked 0 (Place i) 0)) 1 _ no_record (omega arith)

  outset_length : length (outset_records rs i o) ≡ length rs
  outset_length = length-set (set rs 0 (linked 0 (Place i) 0)) 1 _ ∙ length-set rs 0 _

  no_procedure : (k : ℕ) (r : Record Binding) (l j p : ℕ) → record_at (outset_records rs i o) k ≡ r → r.entry ≡ Place l
      → (record_at (outset_records rs i o) k).entry ≡ Procedure j p → ⊥
  no_procedure k r l j p e f w =
      let x : Place l ≡ Procedure j p = sym f ∙ ap (λ (r : Record Binding). r.entry) (sym e) ∙ w in
      let z : ◌≡◌ {A = ℕ} 0 1 = cc in
      omega arith

  -- no procedure is among them
  outset_procedures : (ns : List Node) (ls : List ℕ) → ProceduresOk ns ls (outset_records rs i o) 2
  outset_procedures ns ls zero lt j p w = absurd (no_procedure 0 _ i j p first refl w)
  outset_procedures ns ls (suc zero) lt j p w = absurd (no_procedure 1 _ o j p second refl w)
  outset_procedures ns ls (suc (suc k)) lt j p w = absurd (omega arith)

  outset_weights : (ls : List ℕ) → weights ls (outset_records rs i o) 2 ≡ 0
  unfolding walk
  outset_weights ls = rw (second, first) refl

  outset_env : (L : ℕ) (ns : List Node) (ls : List ℕ) (F : Forest) → env_at L ns ls F (outset_records rs i o) 2 ≡ (1, place o) ∷ (0, place i) ∷ []
  unfolding walk
  outset_env L ns ls F = rw (second, first) refl

  -- there is room for all that the rule can put on top of them
  pub outset_given : (ns : List Node) (ls : List ℕ) (rs' : Records) (top head : ℕ) → Outset rs i o rs' top head
      → (weights ls rs' head ≡ 0) × (length rs' ≡ length rs) × ProceduresOk ns ls rs' top
  outset_given ns ls rs' top head s =
      rw (s.records, s.top, s.head) (outset_weights ls, outset_length, outset_procedures ns ls)

  -- the command of the whole table is the rule's
  at_outset : (L : ℕ) (ns : List Node) (ls : List ℕ) (σ : Memory) (u : ℕ) (σ' : Memory) (r : Result ℕ Stop)
      → length ls ≡ length ns → Lengths ns ls → Ran L ns ls (outset_records rs i o) 2 σ u σ' r
      → (c : Com) → build ns ≡ Ok c → whole_command L i o c σ u (units_left r σ')
  at_outset L ns ls σ u σ' (Ok u') long g x c e =
      let t = standing ns ls long g in
      let q : g.rule ≡ c = cc (g.built, e) in
      subst (λ (c : Com). whole_command L i o c σ u (ended tt σ' u')) (t.3.2 ∙ q)
      (subst (λ (ρ : Env). does L ρ (t.3.0.tree (length ns - 1)) σ u (ended tt σ' u')) (outset_env L ns ls t.3.0) (x t.3.0 t.3.1))
  at_outset L ns ls σ u σ' (Err s) long g x c e =
      let t = standing ns ls long g in
      let q : g.rule ≡ c = cc (g.built, e) in
      subst (λ (c : Com). whole_command L i o c σ u (stopped s σ')) (t.3.2 ∙ q)
      (subst (λ (ρ : Env). does L ρ (t.3.0.tree (length ns - 1)) σ u (stopped s σ')) (outset_env L ns ls t.3.0) (x t.3.0 t.3.1))

  pub rule_performed : (L : ℕ) (ns : List Node) (ls : List ℕ) (rs' : Records) (top head : ℕ) (σ : Memory) (u : ℕ) (σ' : Memory) (r : Result ℕ Stop)
      → Outset rs i o rs' top head → length ls ≡ length ns → Lengths ns ls → Ran L ns ls rs' head σ u σ' r
      → (c : Com) → build ns ≡ Ok c → whole_command L i o c σ u (units_left r σ')
  rule_performed L ns ls rs' top head σ u σ' r s long g x =
      at_outset L ns ls σ u σ' r long g
      (subst (λ (p : ℕ). Ran L ns ls (outset_records rs i o) p σ u σ' r) s.head (subst (λ (rs : Records). Ran L ns ls rs head σ u σ' r) s.records x))
