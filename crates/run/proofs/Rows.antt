-- Rows of commands and procedures, from the last one back to the first.
use Rattle.std.proofs.Common.{◌≡◌, ℕ, zero, suc, ◌+◌, ◌-◌, ◌<◌, ◌≤◌, Bool, true, false, eqb, ◌≢◌, List, ◌∷◌, length, set, Some, sym, refl, ap, ◌∙◌, arith, get_or-set_other, get_or-set_same, eqb-true}
use borrow.Author.Tests.{eqb-false}
use Rattle.language.specs.declared.tables.Node.{Node}
use Rattle.language.specs.declared.tables.Kind.TheVariants.{Proc}
use Rattle.table.specs.Walk.{start_at}
use Rattle.run.specs.declared.levels.Frame.{Frame}
use Rattle.run.specs.declared.levels.Level.{Level}
use Rattle.run.specs.declared.levels.State.{State}
use Rattle.run.specs.Shapes.{kind_at, ComKind, ComsBefore, ProcsBefore, back}
use Rattle.run.specs.Levels.{level_at, no_level}
use Rattle.run.specs.Machine.{pushed}

pub coms_one : (ns : List Node) (ls : List ℕ) (lo e n k : ℕ) → k < n → ComsBefore ns ls lo e (n - k)
    → (1 ≤ e) × ComKind (kind_at ns (e - 1)) × (lo ≤ start_at ls (e - 1)) × (start_at ls (e - 1) < e) × ComsBefore ns ls lo (start_at ls (e - 1)) (n - (k + 1))
coms_one ns ls lo e n k h c = let q : n - k ≡ suc (n - (k + 1)) = omega arith in rw q at c

pub pushed_one : (ls : List ℕ) (s : State) (p m e n k : ℕ) (fs : List Frame) → k < n
    → pushed ls s p m e (n - k) fs ≡ pushed ls s p m (start_at ls (e - 1)) (n - (k + 1)) (record { state = s; at = e - 1; top = m; position = p } ∷ fs)
unfolding pushed
pushed_one ls s p m e n k fs h = let q : n - k ≡ suc (n - (k + 1)) = omega arith in rw q

pub pushed_all : (ls : List ℕ) (s : State) (p m e n k : ℕ) (fs : List Frame) → n ≤ k → pushed ls s p m e (n - k) fs ≡ fs
unfolding pushed
pushed_all ls s p m e n k fs h = let q : n - k ≡ 0 = omega arith in rw q

pub back_one : (ls : List ℕ) (e n k : ℕ) → k < n → back ls e (n - k) ≡ back ls (start_at ls (e - 1)) (n - (k + 1))
unfolding back
back_one ls e n k h = let q : n - k ≡ suc (n - (k + 1)) = omega arith in rw q

pub back_all : (ls : List ℕ) (e n k : ℕ) → n ≤ k → back ls e (n - k) ≡ e
unfolding back
back_all ls e n k h = let q : n - k ≡ 0 = omega arith in rw q

-- one step further back
pub back_more : (ls : List ℕ) (e n : ℕ) → back ls e (n + 1) ≡ start_at ls (back ls e n - 1)
unfolding back
back_more ls e zero = refl
back_more ls e (suc n) = let q : suc n + 1 ≡ suc (n + 1) = omega arith in rw q (back_more ls (start_at ls (e - 1)) n)

pub procs_one : (ns : List Node) (ls : List ℕ) (e n : ℕ) → 0 < n → ProcsBefore ns ls e n
    → (1 ≤ e) × (kind_at ns (e - 1) ≡ Some Proc) × (start_at ls (e - 1) < e) × ProcsBefore ns ls (start_at ls (e - 1)) (n - 1)
procs_one ns ls e n h c = let q : n ≡ suc (n - 1) = omega arith in rw q at c

-- the last of the procedures that are left out
pub procs_at_back : (ns : List Node) (ls : List ℕ) (e n j : ℕ) → j < n → ProcsBefore ns ls e n → (1 ≤ back ls e j) × (back ls e j ≤ e)
unfolding back
procs_at_back ns ls e n zero h c = ((procs_one ns ls e n h c).0, omega arith)
procs_at_back ns ls e n (suc j) h c =
    let one = procs_one ns ls e n (omega arith) c in
    let r = procs_at_back ns ls (start_at ls (e - 1)) (n - 1) j (omega arith) one.3 in
    (r.0, omega (arith, r.1, one.2))

-- procedures noted from the last one down: those from `left` on are there
pub record NotedFrom (ls : List ℕ) (vs₀ vs : List Level) (d e n e₁ left : ℕ) : Type 0 where
  pub fewer : left ≤ n
  pub reached : e₁ ≡ back ls e (n - left)
  pub noted : (j : ℕ) → left ≤ j → j < n → (level_at vs (d + j)).frame.at + 1 ≡ back ls e (n - (j + 1))
  pub below : (k : ℕ) → k < d → level_at vs k ≡ level_at vs₀ k

pub noted_none : (ls : List ℕ) (vs : List Level) (d e n : ℕ) → NotedFrom ls vs vs d e n e n
noted_none ls vs d e n =
    record { fewer = omega arith; reached = sym (back_all ls e n n (omega arith)); noted = λ j h l. absurd (omega arith); below = λ k h. refl }

pub noted_more : (ls : List ℕ) (vs₀ vs : List Level) (d e n e₁ left : ℕ) (x : Level) → NotedFrom ls vs₀ vs d e n e₁ left → 0 < left → d + (left - 1) < length vs
    → 1 ≤ e₁ → x.frame.at ≡ e₁ - 1 → NotedFrom ls vs₀ (set vs (d + (left - 1)) x) d e n (start_at ls (e₁ - 1)) (left - 1)
noted_more ls vs₀ vs d e n e₁ left x o h room one at =
    let le : left ≤ n = o.fewer in
    let q : n - left + 1 ≡ n - (left - 1) = omega arith in
    record {
      fewer = omega arith;
      reached = rw o.reached (sym (back_more ls e (n - left)) ∙ ap (back ls e) q);
      noted = λ j lj jn. go j lj jn (eqb j (left - 1)) refl;
      below = λ k lt. let ne : k ≢ d + (left - 1) = omega arith in get_or-set_other vs (d + (left - 1)) k x no_level ne ∙ o.below k lt;
    }
  where
    go : (j : ℕ) → left - 1 ≤ j → j < n → (b : Bool) → eqb j (left - 1) ≡ b → (level_at (set vs (d + (left - 1)) x) (d + j)).frame.at + 1 ≡ back ls e (n - (j + 1))
    go j lj jn true b =
        let z : j ≡ left - 1 = eqb-true j (left - 1) b in
        let le : left ≤ n = o.fewer in
        let s : level_at (set vs (d + (left - 1)) x) (d + (left - 1)) ≡ x = get_or-set_same vs (d + (left - 1)) x no_level room in
        let a : x.frame.at + 1 ≡ e₁ = rw at (omega arith) in
        let m : n - (left - 1 + 1) ≡ n - left = omega arith in
        rw (z, s, m) (a ∙ o.reached)
    go j lj jn false b =
        let z : j ≢ left - 1 = eqb-false j (left - 1) b in
        let ne : d + j ≢ d + (left - 1) = omega arith in
        let s : level_at (set vs (d + (left - 1)) x) (d + j) ≡ level_at vs (d + j) = get_or-set_other vs (d + (left - 1)) (d + j) x no_level ne in
        rw s (o.noted j (omega arith) jn)
