-- A block's procedures, brought into sight one after the other.
use Rattle.std.proofs.Common.{◌≡◌, ℕ, zero, suc, ◌+◌, ◌-◌, ◌<◌, ◌≤◌, List, length, set, sym, refl, ap, ◌∙◌, subst, add-one, arith, length-set, get_or-set_same}
use Rattle.language.specs.declared.tables.Node.{Node}
use Rattle.scope.specs.Calls.{linked}
use Rattle.table.specs.Stretches.{node_at}
use Rattle.table.specs.Walk.{start_at}
use Rattle.run.specs.declared.bindings.Binding.TheVariants.{Procedure}
use Rattle.run.specs.declared.levels.Level.{Level}
use Rattle.run.specs.Names.{Records, record_at, no_record, SameBelow}
use Rattle.run.specs.Shapes.{ProcsBefore, back}
use Rattle.run.specs.Levels.{level_at}
use Rattle.run.specs.Machine.{ProceduresIn, Listed, head}
use Rattle.run.proofs.Sights.{same_set, same_then}
use Rattle.run.proofs.Rows.{back_more, back_all, procs_at_back}

pub head_low : (m p n : ℕ) → p ≤ m → head m p n ≤ m + n
head_low m p zero h = omega arith
head_low m p (suc n) h = omega arith

head_next : (m p k : ℕ) → head m p (k + 1) ≡ m + k + 1
head_next m p k = rw add-one (omega arith)

pub procedures_same : (ns : List Node) (ls : List ℕ) (rs rs' : Records) (M m p e n : ℕ) → SameBelow rs rs' M → m + n ≤ M → ProceduresIn ns ls rs m p e n → ProceduresIn ns ls rs' m p e n
unfolding ProceduresIn
procedures_same ns ls rs rs' M m p e zero q h d = tt
procedures_same ns ls rs rs' M m p e (suc n) q h d =
    let r : record_at rs' (m + n) ≡ record_at rs (m + n) = q (m + n) (omega arith) in
    (rw r d.0, rw r d.1, rw r d.2, procedures_same ns ls rs rs' M m p (start_at ls (e - 1)) n q (omega arith) d.3)

-- k of the n procedures that are listed from the level d on are recorded
pub record Declaring (ns : List Node) (ls : List ℕ) (vs : List Level) (d n k : ℕ) (rs : Records) (m p : ℕ) (rs₁ : Records) (m₁ p₁ : ℕ) : Type 0 where
  pub older : SameBelow rs rs₁ m
  pub long : length rs₁ ≡ length rs
  pub top : m₁ ≡ m + k
  pub seen : p₁ ≡ head m p k
  pub recorded : (e : ℕ) → Listed ls vs d e n → ProcsBefore ns ls e n → ProceduresIn ns ls rs₁ m p (back ls e (n - k)) k

pub declaring_first : (ns : List Node) (ls : List ℕ) (vs : List Level) (d n : ℕ) (rs : Records) (m p : ℕ) → Declaring ns ls vs d n 0 rs m p rs m p
unfolding ProceduresIn
declaring_first ns ls vs d n rs m p = record { older = λ k lt. refl; long = refl; top = omega arith; seen = refl; recorded = λ e l b. tt }

-- the node of the next procedure
pub next_inside : (ns : List Node) (ls : List ℕ) (vs : List Level) (d e n k : ℕ) → k < n → e ≤ length ns → Listed ls vs d e n → ProcsBefore ns ls e n → (level_at vs (d + k)).frame.at < length ns
next_inside ns ls vs d e n k h le l b =
    let a : (level_at vs (d + k)).frame.at + 1 ≡ back ls e (n - (k + 1)) = l k h in
    let r : back ls e (n - (k + 1)) ≤ e = (procs_at_back ns ls e n (n - (k + 1)) (omega arith) b).1 in
    omega arith

pub declaring_more : (ns : List Node) (ls : List ℕ) (vs : List Level) (d n k : ℕ) (rs : Records) (m p : ℕ) (rs₁ : Records) (m₁ p₁ : ℕ) (rs₂ : Records) (m₂ p₂ : ℕ) (x : Node)
    → Declaring ns ls vs d n k rs m p rs₁ m₁ p₁ → k < n → m₁ < length rs₁ → x ≡ node_at ns (level_at vs (d + k)).frame.at
    → rs₂ ≡ set rs₁ m₁ (linked x.name (Procedure (level_at vs (d + k)).frame.at p) p₁) → m₂ ≡ m₁ + 1 → p₂ ≡ m₁ + 1
    → Declaring ns ls vs d n (k + 1) rs m p rs₂ m₂ p₂
unfolding ProceduresIn
declaring_more ns ls vs d n k rs m p rs₁ m₁ p₁ rs₂ m₂ p₂ x o lt h q er em ep =
    let i : ℕ = (level_at vs (d + k)).frame.at in
    let top : m₁ ≡ m + k = o.top in
    let er' : rs₂ ≡ set rs₁ (m + k) (linked (node_at ns (level_at vs (d + k)).frame.at).name (Procedure (level_at vs (d + k)).frame.at p) (head m p k)) = rw (top, q, o.seen) at er in
    let here : record_at rs₂ (m + k) ≡ linked (node_at ns (level_at vs (d + k)).frame.at).name (Procedure (level_at vs (d + k)).frame.at p) (head m p k) = rw er' (get_or-set_same rs₁ (m + k) _ no_record (omega arith)) in
    record {
      older = rw er' (same_then rs rs₁ _ m o.older (same_set rs₁ (m + k) _ m (omega arith)));
      long = rw er' (length-set rs₁ (m + k) _ ∙ o.long);
      top = omega arith;
      seen = ep ∙ ap (λ (t : ℕ). t + 1) top ∙ sym (head_next m p k);
      recorded = λ e l b.
          let a : back ls e (n - (k + 1)) - 1 ≡ (level_at vs (d + k)).frame.at = omega (arith, l k lt) in
          let c : n - (k + 1) + 1 ≡ n - k = omega arith in
          let older : start_at ls (level_at vs (d + k)).frame.at ≡ back ls e (n - k) = rw (← a) (sym (back_more ls e (n - (k + 1))) ∙ ap (back ls e) c) in
          let rest : ProceduresIn ns ls rs₂ m p (back ls e (n - k)) k
          = rw er' (procedures_same ns ls rs₁ _ (m + k) m p (back ls e (n - k)) k (same_set rs₁ (m + k) _ (m + k) (omega arith)) (omega arith) (o.recorded e l b)) in
          let rest' : ProceduresIn ns ls rs₂ m p (start_at ls (level_at vs (d + k)).frame.at) k = rw older rest in
          let all : ProceduresIn ns ls rs₂ m p (back ls e (n - (k + 1))) (suc k) = rw a (rw here refl, rw here refl, rw here refl, rest') in
          subst (λ (j : ℕ). ProceduresIn ns ls rs₂ m p (back ls e (n - (k + 1))) j) (sym (add-one k)) all;
    }

pub declared_all : (ns : List Node) (ls : List ℕ) (vs : List Level) (d n k : ℕ) (rs : Records) (m p : ℕ) (rs₁ : Records) (m₁ p₁ : ℕ) → Declaring ns ls vs d n k rs m p rs₁ m₁ p₁
    → n ≤ k → k ≤ n → (e : ℕ) → Listed ls vs d e n → ProcsBefore ns ls e n → ProceduresIn ns ls rs₁ m p e n
declared_all ns ls vs d n k rs m p rs₁ m₁ p₁ o h h' e l b =
    let same : k ≡ n = omega arith in
    let x = rw (back_all ls e n k h) at (o.recorded e l b) in
    rw same at x
