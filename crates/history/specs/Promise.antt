-- What is promised of every history of every piece.
use Rattle.std.specs.Prelude.{◌≡◌, ℕ, ◌+◌, ◌-◌, ◌<◌, ◌≤◌, true, false, ◌⊎◌, ◌↔◌, [], ◌∷◌, ◌++◌, length, ℤ, pos, Some, None, Ok, Err, Option, ◌≢◌, slice_index}
use Rattle.language.specs.declared.values.Value.TheVariants.{Whole as whole_value}
use Rattle.language.specs.declared.values.Stop.TheVariants.{Stuck}
use Rattle.language.specs.declared.faults.Fault.{Fault}
use Rattle.language.specs.declared.faults.Layer.TheVariants.{Run, Piece}
use Rattle.language.specs.declared.faults.RunCause.TheVariants.{Unit as UnitCause}
use Rattle.language.specs.declared.faults.PieceCause.TheVariants.{Ungraded}
use Rattle.language.specs.Faults.{fault}
use Rattle.language.specs.Memory.{Memory, live}
use Rattle.language.specs.Tree.{Com}
use Rattle.language.specs.Meaning.{Trace, Means}
use Rattle.language.specs.Reference.{graded}
use Rattle.language.specs.Outcome.{told}
use Rattle.language.specs.Runs.{Out, ended, stopped, runs}
use Rattle.language.specs.Laws.{commands, units}
use Rattle.history.specs.declared.answers.Answer.TheVariants.{Laid, Ticket, Kept, Undone}
use Rattle.history.specs.States.{Accepted, Call, open_to, grade, keep, undo, show, State, Reply, locations_of, store_of, Apart, Free, lists_fit, shown, Does}
use Rattle.history.specs.Histories.{History, Goes, Start, Reached, resizing, points, open_step, kept_step, Rules, open_rules, kept_rules, none_opened, RunAnswer, said, run_of}

-- what a piece's own store holds
abbrev pub store : State → Memory
store s = store_of s.mode

-- a run's outcome is what was answered, and leaves the store as it was
abbrev pub Tells : RunAnswer → ℕ → Memory → Out ℤ → Type 0
Tells y a σ (stopped s τ) = (told (Err s) ≡ Some y) × (τ ≡ σ)
Tells y a σ (ended z τ u) = (y ≡ Ok (graded z (a - u))) × (u ≤ a) × (τ ≡ σ)

-- a shift that the point's last rule in the resize kept last means at that resize's step; and 0 before any was kept
abbrev pub Due : Option Rules → ℤ → ℕ → ℤ → Type 0
Due None step k z = z ≡ pos 0
Due (Some g) step k z = (r : Accepted) × (t : Trace) × (g k ≡ Some r) × Means r.tree step t z

-- in an open resize: a shift that the point's last rule there means at the new step; and, for a point not graded there, as before it
abbrev pub DueOpen : Option Accepted → ℤ → Option Rules → ℤ → ℕ → ℤ → Type 0
DueOpen None new kept step k z = Due kept step k z
DueOpen (Some r) new kept step k z = (t : Trace) × Means r.tree new t z

-- the point's location holds the shift, and a show of the point gives it, with the step
abbrev pub Seen : State → ℕ → ℤ → ℤ → Type 0
Seen s k z step =
    (store s (slice_index (locations_of s.mode) k) ≡ Some (whole_value z))
    × ((x : Reply) (s' : State) → Does s (show k) x s' → x ≡ Ok (shown z step))

-- points that some rule graded in the resize opened last
abbrev pub AllGraded : History → ℕ → Type 0
AllGraded h n = (j : ℕ) → j < n → (r : Accepted) × (open_rules h j ≡ Some r)

-- Of the piece p, in the state s after the history h.
module _ (p : Start) (h : History) (s : State) where
  -- where there is room for its need, no run of an accepted rule on the piece's own store is stuck
  abbrev pub NeverStuckHere : Type 0
  NeverStuckHere =
      (r : Accepted) (step : ℤ) (a : ℕ) (τ : Memory) → live (store s) + r.need ≤ p.limit
      → runs p.limit r.tree step (store s) a (stopped Stuck τ) → ⊥

  -- a grade that tells of a run tells the outcome of every run of its rule, at the resize's step, on the piece's own store; and there is one
  abbrev pub Faithful : Type 0
  Faithful =
      (m k : ℕ) (r : Accepted) (a : ℕ) (w : ℕ × ℕ × ℕ) (x : Reply) (s' : State) (y : RunAnswer)
      → Does s (grade m k r a w) x s' → run_of x ≡ Some y
      → (x ≡ said k y)
      × ((o : Out ℤ) → runs p.limit r.tree (open_step h) (store s) a o → Tells y a (store s) o)
      × (p.limit ≤ 65536 → (o : Out ℤ) × runs p.limit r.tree (open_step h) (store s) a o)

  -- the ticket is the piece's and a resize is open, the point is laid, the lists are long enough, and there is room beside the points
  abbrev pub Ready : ℕ → ℕ → Accepted → ℕ × ℕ × ℕ → Type 0
  Ready m k r w =
      (m ≡ p.number) × (resizing h ≡ true) × (k < points h) × (lists_fit r w ≡ true) × (points h + r.need ≤ p.limit)

  -- a grade tells of a run exactly when all is ready for one
  abbrev pub Reaches : Type 0
  Reaches =
      (m k : ℕ) (r : Accepted) (a : ℕ) (w : ℕ × ℕ × ℕ) (x : Reply) (s' : State)
      → Does s (grade m k r a w) x s' → Ready m k r w ↔ ((y : RunAnswer) × (run_of x ≡ Some y))

  -- once laid, the points have locations of their own, and those are all that is live: nothing was before, and no run leaves any behind
  abbrev pub Live : Type 0
  Live =
      1 ≤ points h
      → let ls = locations_of s.mode in
      Free ls × (length ls ≡ points h) × ((l : ℕ) → Apart l ls → store s l ≡ None) × (live (store s) ≡ points h)
      × ((l : ℕ) → p.held l ≡ None)

  -- with no resize open, the shift that is due is seen at each laid point, with the step of the resize kept last
  abbrev pub Stands : Type 0
  Stands = (k : ℕ) → resizing h ≡ false → k < points h → (z : ℤ) × Due (kept_rules h) (kept_step h) k z × Seen s k z (kept_step h)

  -- and with one open, what is due in it, with the same step
  abbrev pub StandsOpen : Type 0
  StandsOpen =
      (k : ℕ) → resizing h ≡ true → k < points h
      → (z : ℤ) × DueOpen (open_rules h k) (open_step h) (kept_rules h) (kept_step h) k z × Seen s k z (kept_step h)

  -- with its ticket, in an open resize, a keep gives the new step if all points are graded, and else the refusal at the lowest that is not
  abbrev pub Keeps : Type 0
  Keeps =
      (x : Reply) (s' : State) → Does s (keep p.number) x s' → resizing h ≡ true
      → (AllGraded h (points h) × (x ≡ Ok (Kept (open_step h))))
      ⊎ ((k : ℕ) × (k < points h) × AllGraded h k × (open_rules h k ≡ None) × (x ≡ Err (fault (Piece Ungraded) k)))

  -- with its ticket, in an open resize, an undo gives the step of the resize kept last
  abbrev pub Undoes : Type 0
  Undoes = (x : Reply) (s' : State) → Does s (undo p.number) x s' → resizing h ≡ true → x ≡ Ok (Undone (kept_step h))

  pub record Here : Type 0 where
    pub never_stuck : NeverStuckHere
    pub faithful : Faithful
    pub reaches : Reaches
    pub live_points : Live
    pub stands : Stands
    pub stands_open : StandsOpen
    pub keeps : Keeps
    pub undoes : Undoes

-- in some history of some piece, a grade by the rule c, in a resize at the step, with the allowance, ran and came to y
pub record Came (c : Com) (step : ℤ) (allowance : ℕ) (y : RunAnswer) : Type 0 where
  pub piece : Start
  pub before : History
  pub ticket : ℕ
  pub point : ℕ
  pub rule : Accepted
  pub lists : ℕ × ℕ × ℕ
  pub reply : Reply
  pub after : State
  pub performed : Reached piece ((grade ticket point rule allowance lists, reply) ∷ before) after
  pub by : rule.tree ≡ c
  pub in_step : open_step before ≡ step
  pub ran : run_of reply ≡ Some y

-- after every history, all of the above
abbrev pub Always : Type 0
Always = (p : Start) (h : History) (s : State) → Reached p h s → Here p h s

-- two runs alike in rule, step and allowance, of whatever pieces and after whatever histories, come to the same
abbrev pub Alike : Type 0
Alike = (c : Com) (step : ℤ) (a : ℕ) (y y' : RunAnswer) → Came c step a y → Came c step a y' → y ≡ y'

-- a shift after u units is the same shift after u units at every allowance from u on; and at every one below it is
-- the refusal for want of a unit, at the command of the rule's meaning that wanted it
abbrev pub Steady : Type 0
Steady =
    (c : Com) (step : ℤ) (a : ℕ) (z : ℤ) (u : ℕ) → Came c step a (Ok (graded z u))
    → (t : Trace) × Means c step t z × (units t ≡ u)
    × ((b : ℕ) (y : RunAnswer) → Came c step b y
    → (u ≤ b → y ≡ Ok (graded z u)) × (b < u → y ≡ Err (fault (Run UnitCause) (slice_index (commands t) b))))

-- an undo that is not refused brings back the state from before its resize was opened, and so the shifts, the step and the store
abbrev pub UndoneWholly : Type 0
UndoneWholly =
    (s s' : State) (m j : ℕ) (t u : ℤ) (during : History) → none_opened during ≡ true
    → Goes s ((undo m, Ok (Undone t)) ∷ (during ++ (open_to u, Ok (Ticket j)) ∷ [])) s' → s' ≡ s

-- a refusal changes nothing
abbrev pub RefusedWholly : Type 0
RefusedWholly = (s s' : State) (c : Call) (f : Fault) → Does s c (Err f) s' → s' ≡ s

-- every call has an answer in every state
abbrev pub Answered : Type 0
Answered = (s : State) (c : Call) → (a : Reply) × (s' : State) × Does s c a s'

-- and only one; what it leaves is left open only in a lay: which locations the points have
abbrev pub AnsweredOnce : Type 0
AnsweredOnce =
    (s s' s'' : State) (c : Call) (a b : Reply) → Does s c a s' → Does s c b s'' → (a ≡ b) × ((a ≢ Ok Laid) → s' ≡ s'')
