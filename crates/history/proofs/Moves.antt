-- What a call comes to, as cases. Assumes nothing.
use Rattle.std.proofs.Common.{◌≡◌, ℕ, ◌+◌, ◌<◌, ◌≤◌, Bool, true, false, cond, ◌&&◌, eqb, ltb, leb, List, length, get_or, set, replicate, ℤ, pos, Some, None, Ok, Err, Option, Result, sym, refl, ◌∙◌, subst, arith}
use Rattle.std.proofs.lemmas.Bool.{ltb-true, leb-true, eqb-true, and_parts}
use Rattle.language.specs.declared.values.Graded.{Graded as Grading}
use Rattle.language.specs.declared.faults.Fault.{Fault}
use Rattle.language.specs.declared.faults.Layer.TheVariants as layers
use Rattle.language.specs.declared.faults.PieceCause.TheVariants as causes
use Rattle.language.specs.declared.faults.TableCause.TheVariants.{WorkLists}
use Rattle.language.specs.Faults.{fault}
use Rattle.language.specs.Memory.{Memory, live}
use Rattle.language.specs.Reference.{answer}
use Rattle.language.specs.Outcome.{told}
use Rattle.history.specs.declared.answers.Answer.TheVariants.{Laid, Ticket, Graded, Kept, Undone}
use Rattle.history.specs.States.{Accepted, Call, lay, open_to, grade, keep, undo, show, Mode, bare, laid, opened, State, shifts_of, holding, Free, with_mode, stepped, lowest_false, Reply, Outcome, answers_with, refuses_with, refused, at_point, lists_fit, shown, does_lay, does_open, does_run, does_grade, does_end, does_keep, does_undo, does, asked_points, Does}
use Rattle.history.specs.Histories.{run_of}
use Rattle.history.proofs.Plain.{some_same}

abbrev pub Handed : Call → List ℕ → Type 0
Handed c ls = (length ls ≡ asked_points c) × Free ls

-- a grade's run is reached
pub record ReadyAt (s : State) (m k : ℕ) (r : Accepted) (w : ℕ × ℕ × ℕ) (t : ℤ) (ls : List ℕ) (zs bs : List ℤ) (gs : List Bool) : Type 0 where
  pub was : s.mode ≡ opened t ls zs bs gs
  pub ours : m ≡ s.number
  pub laid_there : k < length zs
  pub long : lists_fit r w ≡ true
  pub room : live (holding ls zs) + r.need ≤ s.limit

pub data Moves (s : State) (c : Call) (a : Reply) (s' : State) : Type 0 where
  refuses : (f : Fault) → a ≡ Err f → run_of (Err f) ≡ None → s' ≡ s → Moves s c a s'
  stops : (m k : ℕ) (r : Accepted) (b : ℕ) (w : ℕ × ℕ × ℕ) (t : ℤ) (ls : List ℕ) (zs bs : List ℤ) (gs : List Bool) (f : Fault) → c ≡ grade m k r b w → ReadyAt s m k r w t ls zs bs gs → told (answer r.tree t b) ≡ Some (Err f) → a ≡ Err (at_point k f) → s' ≡ s → Moves s c a s'
  shows : (k : ℕ) → c ≡ show k → k < length (shifts_of s.mode) → a ≡ Ok (shown (get_or (shifts_of s.mode) k (pos 0)) s.step) → s' ≡ s → Moves s c a s'
  lays : (n : ℕ) (ls : List ℕ) (σ : Memory) → c ≡ lay n → s.mode ≡ bare σ → live σ ≡ 0 → Handed (lay n) ls → a ≡ Ok Laid → s' ≡ with_mode s (laid ls (replicate n (pos 0))) → Moves s c a s'
  opens : (t : ℤ) (ls : List ℕ) (zs : List ℤ) → c ≡ open_to t → s.mode ≡ laid ls zs → a ≡ Ok (Ticket s.number) → s' ≡ with_mode s (opened t ls zs zs (replicate (length zs) false)) → Moves s c a s'
  grades : (m k : ℕ) (r : Accepted) (b : ℕ) (w : ℕ × ℕ × ℕ) (t : ℤ) (ls : List ℕ) (zs bs : List ℤ) (gs : List Bool) (y : Grading) → c ≡ grade m k r b w → ReadyAt s m k r w t ls zs bs gs → told (answer r.tree t b) ≡ Some (Ok y) → a ≡ Ok (Graded y) → s' ≡ with_mode s (opened t ls (set zs k y.shift) bs (set gs k true)) → Moves s c a s'
  keeps : (m : ℕ) (t : ℤ) (ls : List ℕ) (zs bs : List ℤ) (gs : List Bool) → c ≡ keep m → s.mode ≡ opened t ls zs bs gs → lowest_false gs ≡ None → a ≡ Ok (Kept t) → s' ≡ stepped s t (laid ls zs) → Moves s c a s'
  undoes : (m : ℕ) (t : ℤ) (ls : List ℕ) (zs bs : List ℤ) (gs : List Bool) → c ≡ undo m → s.mode ≡ opened t ls zs bs gs → a ≡ Ok (Undone s.step) → s' ≡ with_mode s (laid ls bs) → Moves s c a s'

module _ (s : State) where
  -- if there is an answer, it is one of the cases
  abbrev At : Call → Outcome → Type 0
  At c o = (a : Reply) → o.0 ≡ Some a → Moves s c a o.1

  quiet : (c : Call) (f : Fault) → run_of (Err f) ≡ None → At c (refuses_with f s)
  quiet c f n a e = refuses f (some_same e) n refl

  lay_test : (n : ℕ) (ls : List ℕ) (σ : Memory) (b c : Bool) → (eqb (live σ) 0 && leb n s.limit) ≡ c → s.mode ≡ bare σ
      → ((a : Reply) → (cond b (cond c (answers_with Laid (with_mode s (laid ls (replicate n (pos 0))))) (refused causes.Store 0 s)) (refused causes.Points 0 s)).0 ≡ Some a → a ≡ Ok Laid → Handed (lay n) ls)
      → At (lay n) (cond b (cond c (answers_with Laid (with_mode s (laid ls (replicate n (pos 0))))) (refused causes.Store 0 s)) (refused causes.Points 0 s))
  lay_test n ls σ true true q e f a h = lays n ls σ refl e (eqb-true _ _ (and_parts _ _ q).0) (f a h (some_same h)) (some_same h) refl
  lay_test n ls σ true false q e f a h = quiet (lay n) _ refl a h
  lay_test n ls σ false c q e f a h = quiet (lay n) _ refl a h

  lay_moves : (n : ℕ) (ls : List ℕ) (m : Mode) → s.mode ≡ m → ((a : Reply) → (does_lay ls s n m).0 ≡ Some a → a ≡ Ok Laid → Handed (lay n) ls) → At (lay n) (does_lay ls s n m)
  lay_moves n ls (bare σ) e f = lay_test n ls σ (leb 1 n && leb n 256) (eqb (live σ) 0 && leb n s.limit) refl e f
  lay_moves n ls (laid ks zs) e f = quiet (lay n) _ refl
  lay_moves n ls (opened t ks zs bs gs) e f = quiet (lay n) _ refl

  open_moves : (t : ℤ) (m : Mode) → s.mode ≡ m → At (open_to t) (does_open s t m)
  open_moves t (bare σ) e a h = quiet (open_to t) _ refl a h
  open_moves t (laid ls zs) e a h = opens t ls zs refl e (some_same h) refl
  open_moves t (opened u ls zs bs gs) e a h = quiet (open_to t) _ refl a h

  module _ (m k : ℕ) (r : Accepted) (b : ℕ) (w : ℕ × ℕ × ℕ) (t : ℤ) (ls : List ℕ) (zs bs : List ℤ) (gs : List Bool) (e : s.mode ≡ opened t ls zs bs gs) where
    run_moves : (y : Option (Result Grading Fault)) → told (answer r.tree t b) ≡ y → ReadyAt s m k r w t ls zs bs gs → At (grade m k r b w) (does_run s k t ls zs bs gs y)
    run_moves (Some (Ok g)) q ready a h = grades m k r b w t ls zs bs gs g refl ready q (some_same h) refl
    run_moves (Some (Err f)) q ready a h = stops m k r b w t ls zs bs gs f refl ready q (some_same h) refl
    run_moves None q ready a h = let z : ◌≡◌ {A = ℕ} 0 1 = cc in absurd (omega arith)

    grade_test : (b₁ b₂ b₃ b₄ : Bool) → eqb m s.number ≡ b₁ → ltb k (length zs) ≡ b₂ → lists_fit r w ≡ b₃ → leb (live (holding ls zs) + r.need) s.limit ≡ b₄
        → At (grade m k r b w) (cond b₁ (cond b₂ (cond b₃ (cond b₄ (does_run s k t ls zs bs gs (told (answer r.tree t b))) (refused causes.Room 0 s)) (refuses_with (at_point k (fault (layers.Table WorkLists) 0)) s)) (refused causes.Point k s)) (refused causes.Ticket 0 s))
    grade_test true true true true ours lt long room =
        run_moves (told (answer r.tree t b)) refl (record { was = e; ours = eqb-true _ _ ours; laid_there = ltb-true k _ lt; long = long; room = leb-true _ _ room })
    grade_test true true true false ours lt long room = quiet (grade m k r b w) _ refl
    grade_test true true false b₄ ours lt long room = quiet (grade m k r b w) _ refl
    grade_test true false b₃ b₄ ours lt long room = quiet (grade m k r b w) _ refl
    grade_test false b₂ b₃ b₄ ours lt long room = quiet (grade m k r b w) _ refl

  grade_moves : (m k : ℕ) (r : Accepted) (b : ℕ) (w : ℕ × ℕ × ℕ) (x : Mode) → s.mode ≡ x → At (grade m k r b w) (does_grade s m k r b w x)
  grade_moves m k r b w (bare σ) e = quiet (grade m k r b w) _ refl
  grade_moves m k r b w (laid ls zs) e = quiet (grade m k r b w) _ refl
  grade_moves m k r b w (opened t ls zs bs gs) e =
      grade_test m k r b w t ls zs bs gs e (eqb m s.number) (ltb k (length zs)) (lists_fit r w) (leb (live (holding ls zs) + r.need) s.limit) refl refl refl refl

  keep_test : (m : ℕ) (t : ℤ) (ls : List ℕ) (zs bs : List ℤ) (gs : List Bool) (b : Bool) (o : Option ℕ) → lowest_false gs ≡ o → s.mode ≡ opened t ls zs bs gs → At (keep m) (cond b (does_end s t ls zs o) (refused causes.Ticket 0 s))
  keep_test m t ls zs bs gs true None q e a h = keeps m t ls zs bs gs refl e q (some_same h) refl
  keep_test m t ls zs bs gs true (Some k) q e a h = quiet (keep m) _ refl a h
  keep_test m t ls zs bs gs false o q e a h = quiet (keep m) _ refl a h

  keep_moves : (m : ℕ) (x : Mode) → s.mode ≡ x → At (keep m) (does_keep s m x)
  keep_moves m (bare σ) e = quiet (keep m) _ refl
  keep_moves m (laid ls zs) e = quiet (keep m) _ refl
  keep_moves m (opened t ls zs bs gs) e = keep_test m t ls zs bs gs (eqb m s.number) (lowest_false gs) refl e

  undo_test : (m : ℕ) (t : ℤ) (ls : List ℕ) (zs bs : List ℤ) (gs : List Bool) (b : Bool) → s.mode ≡ opened t ls zs bs gs → At (undo m) (cond b (answers_with (Undone s.step) (with_mode s (laid ls bs))) (refused causes.Ticket 0 s))
  undo_test m t ls zs bs gs true e a h = undoes m t ls zs bs gs refl e (some_same h) refl
  undo_test m t ls zs bs gs false e a h = quiet (undo m) _ refl a h

  undo_moves : (m : ℕ) (x : Mode) → s.mode ≡ x → At (undo m) (does_undo s m x)
  undo_moves m (bare σ) e = quiet (undo m) _ refl
  undo_moves m (laid ls zs) e = quiet (undo m) _ refl
  undo_moves m (opened t ls zs bs gs) e = undo_test m t ls zs bs gs (eqb m s.number) e

  show_test : (k : ℕ) (b : Bool) → ltb k (length (shifts_of s.mode)) ≡ b → At (show k) (cond b (answers_with (shown (get_or (shifts_of s.mode) k (pos 0)) s.step) s) (refused causes.Point k s))
  show_test k true h a q = shows k refl (ltb-true k _ h) (some_same q) refl
  show_test k false h a q = quiet (show k) _ refl a q

  moves : (ls : List ℕ) (c : Call) → ((a : Reply) → (does ls s c).0 ≡ Some a → a ≡ Ok Laid → Handed c ls) → At c (does ls s c)
  moves ls (lay n) f = lay_moves n ls s.mode refl f
  moves ls (open_to t) f = open_moves t s.mode refl
  moves ls (grade m k r b w) f = grade_moves m k r b w s.mode refl
  moves ls (keep m) f = keep_moves m s.mode refl
  moves ls (undo m) f = undo_moves m s.mode refl
  moves ls (show k) f = show_test k (ltb k (length (shifts_of s.mode))) refl

pub does_moves : (s : State) (c : Call) (a : Reply) (s' : State) → Does s c a s' → Moves s c a s'
does_moves s c a s' d =
    subst (λ (y : State). Moves s c a y) (sym d.leaves)
    (moves s d.handed c (λ b e q. let z : Some a ≡ Some b = sym d.answers ∙ e in d.free (sym (some_same z) ∙ q)) a d.answers)
