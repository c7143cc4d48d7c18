-- What a piece is to its callers, and what each call answers and leaves.
use Rattle.std.specs.Prelude.{◌≡◌, ℕ, suc, ◌+◌, ◌<◌, Bool, true, false, cond, ◌&&◌, List, [], ◌∷◌, length, replicate, ℤ, pos, Some, None, Ok, Err, Option, Result, ◌==◌, ◌≢◌, nat_le, nat_lt, slice_index_or, slice_set}
use Rattle.language.specs.declared.tables.Node.{Node}
use Rattle.language.specs.declared.values.Graded.{Graded}
use Rattle.language.specs.declared.values.Value.TheVariants.{Whole as whole_value}
use Rattle.language.specs.declared.faults.Fault.{Fault}
use Rattle.language.specs.declared.faults.Layer.TheVariants.{Table, Piece}
use Rattle.language.specs.declared.faults.TableCause.TheVariants.{WorkLists}
use Rattle.language.specs.declared.faults.PieceCause.{PieceCause}
use Rattle.language.specs.declared.faults.PieceCause.TheVariants as causes
use Rattle.language.specs.Faults.{fault}
use Rattle.language.specs.Memory.{Memory, put, live}
use Rattle.language.specs.Tree.{Com}
use Rattle.language.specs.Check.{right_size, long_enough, read_rule}
use Rattle.language.specs.Reference.{answer}
use Rattle.language.specs.Outcome.{told}
use Rattle.history.specs.declared.answers.Answer.{Answer}
use Rattle.history.specs.declared.answers.Answer.TheVariants as answers

-- an accepted rule: its table, the tree that it reads as, and its need of locations
pub record Accepted : Type 0 where
  pub table : List Node
  pub tree : Com
  pub need : ℕ
  pub reads : read_rule table ≡ Ok (tree, need)
  pub sized : right_size (length table) ≡ true

-- a grade's ticket is known by its number, its work lists by their lengths
pub data Call : Type 0 where
  lay : (points : ℕ) → Call
  open_to : (step : ℤ) → Call
  grade : (ticket point : ℕ) (rule : Accepted) (allowance : ℕ) (lists : ℕ × ℕ × ℕ) → Call
  keep : (ticket : ℕ) → Call
  undo : (ticket : ℕ) → Call
  show : (point : ℕ) → Call

-- bare, with what the store holds; laid, with each point's location and shift;
-- or open, with the new step, the locations, the shifts, those remembered, and which points are graded
pub data Mode : Type 0 where
  bare : Memory → Mode
  laid : List ℕ → List ℤ → Mode
  opened : ℤ → List ℕ → List ℤ → List ℤ → List Bool → Mode

pub record State : Type 0 where
  pub number : ℕ
  pub limit : ℕ
  pub step : ℤ
  pub mode : Mode

-- a piece as it is set down
abbrev pub fresh : (number limit : ℕ) → Memory → State
fresh number limit held = record { number = number; limit = limit; step = pos 0; mode = bare held }

abbrev pub shifts_of : Mode → List ℤ
shifts_of (bare σ) = []
shifts_of (laid ls zs) = zs
shifts_of (opened t ls zs bs gs) = zs

abbrev pub locations_of : Mode → List ℕ
locations_of (bare σ) = []
locations_of (laid ls zs) = ls
locations_of (opened t ls zs bs gs) = ls

-- a store in which exactly these locations are live, and hold these
abbrev pub holding : List ℕ → List ℤ → Memory
holding [] zs l = None
holding (k ∷ ks) [] l = None
holding (k ∷ ks) (z ∷ zs) l = put (holding ks zs) k (Some (whole_value z)) l

-- what the piece's own store holds
abbrev pub store_of : Mode → Memory
store_of (bare σ) = σ
store_of (laid ls zs) = holding ls zs
store_of (opened t ls zs bs gs) = holding ls zs

-- locations below 65,536, no two the same
abbrev pub Apart : ℕ → List ℕ → Type 0
Apart l [] = Unit {0}
Apart l (k ∷ ks) = (l ≢ k) × Apart l ks

abbrev pub Free : List ℕ → Type 0
Free [] = Unit {0}
Free (l ∷ ls) = (l < 65536) × Apart l ls × Free ls

abbrev pub with_mode : State → Mode → State
with_mode s m = record { number = s.number; limit = s.limit; step = s.step; mode = m }

abbrev pub stepped : State → ℤ → Mode → State
stepped s t m = record { number = s.number; limit = s.limit; step = t; mode = m }

-- the lowest place of a false, if there is one
abbrev pub after_true : Option ℕ → Option ℕ
after_true None = None
after_true (Some k) = Some (suc k)

abbrev pub lowest_false : List Bool → Option ℕ
lowest_false [] = None
lowest_false (g ∷ gs) = cond g (after_true (lowest_false gs)) (Some 0)

-- how a call is answered: by an answer, or by a refusal
abbrev pub Reply : Type 0
Reply = Result Answer Fault

-- what a call comes to: how it is answered, if it is, and the state that it leaves
abbrev pub Outcome : Type 0
Outcome = Option Reply × State

abbrev pub answers_with : Answer → State → Outcome
answers_with a s = (Some (Ok a), s)

abbrev pub refuses_with : Fault → State → Outcome
refuses_with f s = (Some (Err f), s)

-- a refusal of the piece itself leaves the state as it was
abbrev pub refused : PieceCause → (place : ℕ) → State → Outcome
refused cause place = refuses_with (fault (Piece cause) place)

-- a refusal from below, with the point that was to be graded
abbrev pub at_point : ℕ → Fault → Fault
at_point k f = record { layer = f.layer; place = f.place; point = Some k }

abbrev pub does_lay : List ℕ → State → ℕ → Mode → Outcome
does_lay ls s n (bare σ) =
    cond
    (nat_le 1 n && nat_le n 256)
    (cond
    (live σ == 0 && nat_le n s.limit)
    (answers_with answers.Laid (with_mode s (laid ls (replicate n (pos 0)))))
    (refused causes.Store 0 s))
    (refused causes.Points 0 s)
does_lay ls s n (laid ks zs) = refused causes.NotBare 0 s
does_lay ls s n (opened t ks zs bs gs) = refused causes.NotBare 0 s

abbrev pub does_open : State → ℤ → Mode → Outcome
does_open s t (bare σ) = refused causes.NotReady 0 s
does_open s t (laid ls zs) =
    answers_with (answers.Ticket s.number) (with_mode s (opened t ls zs zs (replicate (length zs) false)))
does_open s t (opened u ls zs bs gs) = refused causes.NotReady 0 s

-- what a run comes to; a stuck run has no answer
abbrev pub does_run : State → ℕ → ℤ → List ℕ → List ℤ → List ℤ → List Bool → Option (Result Graded Fault) → Outcome
does_run s k t ls zs bs gs (Some (Ok g)) =
    answers_with (answers.Graded g) (with_mode s (opened t ls (slice_set zs k g.shift) bs (slice_set gs k true)))
does_run s k t ls zs bs gs (Some (Err f)) = refuses_with (at_point k f) s
does_run s k t ls zs bs gs None = (None, s)

-- each work list is at least two records longer than the table
abbrev pub lists_fit : Accepted → ℕ × ℕ × ℕ → Bool
lists_fit r w = long_enough (length r.table) w.0 w.1 w.2

abbrev pub does_grade : State → ℕ → ℕ → Accepted → ℕ → ℕ × ℕ × ℕ → Mode → Outcome
does_grade s m k r a w (bare σ) = refused causes.Ticket 0 s
does_grade s m k r a w (laid ls zs) = refused causes.Ticket 0 s
does_grade s m k r a w (opened t ls zs bs gs) =
    cond
    (m == s.number)
    (cond
    (nat_lt k (length zs))
    (cond
    (lists_fit r w)
    (cond
    (nat_le (live (holding ls zs) + r.need) s.limit)
    (does_run s k t ls zs bs gs (told (answer r.tree t a)))
    (refused causes.Room 0 s))
    (refuses_with (at_point k (fault (Table WorkLists) 0)) s))
    (refused causes.Point k s))
    (refused causes.Ticket 0 s)

-- a keep, by the lowest point that is not graded
abbrev pub does_end : State → ℤ → List ℕ → List ℤ → Option ℕ → Outcome
does_end s t ls zs None = answers_with (answers.Kept t) (stepped s t (laid ls zs))
does_end s t ls zs (Some k) = refused causes.Ungraded k s

abbrev pub does_keep : State → ℕ → Mode → Outcome
does_keep s m (bare σ) = refused causes.Ticket 0 s
does_keep s m (laid ls zs) = refused causes.Ticket 0 s
does_keep s m (opened t ls zs bs gs) =
    cond (m == s.number) (does_end s t ls zs (lowest_false gs)) (refused causes.Ticket 0 s)

abbrev pub does_undo : State → ℕ → Mode → Outcome
does_undo s m (bare σ) = refused causes.Ticket 0 s
does_undo s m (laid ls zs) = refused causes.Ticket 0 s
does_undo s m (opened t ls zs bs gs) =
    cond (m == s.number) (answers_with (answers.Undone s.step) (with_mode s (laid ls bs))) (refused causes.Ticket 0 s)

abbrev pub shown : ℤ → ℤ → Answer
shown z t = answers.Shown (record { shift = z; step = t })

abbrev pub does_show : State → ℕ → List ℤ → Outcome
does_show s k zs = cond (nat_lt k (length zs)) (answers_with (shown (slice_index_or zs k (pos 0)) s.step) s) (refused causes.Point k s)

-- what a call comes to, with the locations that the store hands out to a lay
abbrev pub does : List ℕ → State → Call → Outcome
does ls s (lay n) = does_lay ls s n s.mode
does ls s (open_to t) = does_open s t s.mode
does ls s (grade m k r a w) = does_grade s m k r a w s.mode
does ls s (keep m) = does_keep s m s.mode
does ls s (undo m) = does_undo s m s.mode
does ls s (show k) = does_show s k (shifts_of s.mode)

abbrev pub asked_points : Call → ℕ
asked_points (lay n) = n
asked_points (open_to t) = 0
asked_points (grade m k r a w) = 0
asked_points (keep m) = 0
asked_points (undo m) = 0
asked_points (show k) = 0

-- before the call, how it is answered, and after it: only which locations a lay hands out is left open
pub record Does (before : State) (call : Call) (reply : Reply) (after : State) : Type 0 where
  pub handed : List ℕ
  pub free : reply ≡ Ok answers.Laid → (length handed ≡ asked_points call) × Free handed
  pub answers : (does handed before call).0 ≡ Some reply
  pub leaves : after ≡ (does handed before call).1
