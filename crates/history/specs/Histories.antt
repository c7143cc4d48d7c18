-- Whole histories of a piece, and words for them that speak of calls and answers alone.
use Rattle.std.specs.Prelude.{◌≡◌, ◌≢◌, ℕ, ◌<◌, ◌≤◌, refl, is_some, Bool, true, false, cond, List, [], ◌∷◌, ℤ, pos, Some, None, Ok, Err, Option, Result, ◌==◌}
use Rattle.std.specs.Result.{result_map_both}
use Rattle.std.proofs.Common.{arith}
use Rattle.language.specs.declared.values.Value.{Value}
use Rattle.language.specs.declared.values.Graded.{Graded as Grading}
use Rattle.language.specs.declared.faults.Fault.{Fault}
use Rattle.language.specs.declared.faults.Layer.{Layer}
use Rattle.language.specs.declared.faults.Layer.TheVariants.{Table, Names, Run, Piece}
use Rattle.language.specs.Faults.{fault}
use Rattle.language.specs.Memory.{Memory}
use Rattle.history.specs.declared.answers.Answer.TheVariants.{Laid, Ticket, Graded, Kept, Undone, Shown}
use Rattle.history.specs.States as P
use Rattle.history.specs.States.{Accepted, Call, lay, open_to, grade, keep, undo, show, State, Reply, at_point, asked_points, Does}

-- the latest event first
abbrev pub History : Type 0
History = List (Call × Reply)

-- from a state, by the events, to a state
abbrev pub Goes : State → History → State → Type 0
Goes s [] s' = s' ≡ s
Goes s (e ∷ h) s' = (r : State) × Goes s h r × Does r e.0 e.1 s'

-- a piece at its beginning: its number, and its store's limit and contents, with nothing from location 65,536 on
pub record Start : Type 0 where
  pub number : ℕ
  pub limit : ℕ
  pub held : Memory
  pub low : (l : ℕ) → 65536 ≤ l → held l ≡ None

-- a store whose live locations are below 65,536 has nothing from there on
dead : (o : Option Value) → (is_some o ≢ true) → o ≡ None
dead None h = refl
dead (Some v) h = absurd (h refl)

pub high_dead : (σ : Memory) → ((l : ℕ) → is_some (σ l) ≡ true → l < 65536) → (l : ℕ) → 65536 ≤ l → σ l ≡ None
high_dead σ low l h = dead (σ l) (λ e. let q = low l e in omega arith)

abbrev pub set_down : Start → State
set_down p = P.fresh p.number p.limit p.held

abbrev pub Reached : Start → History → State → Type 0
Reached p h s = Goes (set_down p) h s

-- whether a resize is open
abbrev pub open_at : Reply → Bool → Bool
open_at (Ok Laid) b = b
open_at (Ok (Ticket n)) b = true
open_at (Ok (Graded g)) b = b
open_at (Ok (Kept t)) b = false
open_at (Ok (Undone t)) b = false
open_at (Ok (Shown w)) b = b
open_at (Err f) b = b

abbrev pub resizing : History → Bool
resizing [] = false
resizing (e ∷ h) = open_at e.1 (resizing h)

-- how many points are laid
abbrev pub points_at : Call → Reply → ℕ → ℕ
points_at c (Ok Laid) n = asked_points c
points_at c (Ok (Ticket m)) n = n
points_at c (Ok (Graded g)) n = n
points_at c (Ok (Kept t)) n = n
points_at c (Ok (Undone t)) n = n
points_at c (Ok (Shown w)) n = n
points_at c (Err f) n = n

abbrev pub points : History → ℕ
points [] = 0
points (e ∷ h) = points_at e.0 e.1 (points h)

-- the step of the resize opened last
abbrev pub asked_step : Call → ℤ
asked_step (lay n) = pos 0
asked_step (open_to t) = t
asked_step (grade m k r a w) = pos 0
asked_step (keep m) = pos 0
asked_step (undo m) = pos 0
asked_step (show k) = pos 0

abbrev pub opened_at : Call → Reply → ℤ → ℤ
opened_at c (Ok Laid) t = t
opened_at c (Ok (Ticket m)) t = asked_step c
opened_at c (Ok (Graded g)) t = t
opened_at c (Ok (Kept u)) t = t
opened_at c (Ok (Undone u)) t = t
opened_at c (Ok (Shown w)) t = t
opened_at c (Err f) t = t

abbrev pub open_step : History → ℤ
open_step [] = pos 0
open_step (e ∷ h) = opened_at e.0 e.1 (open_step h)

-- the step of the resize kept last, and 0 before any
abbrev pub step_at : Reply → ℤ → ℤ → ℤ
step_at (Ok Laid) new old = old
step_at (Ok (Ticket n)) new old = old
step_at (Ok (Graded g)) new old = old
step_at (Ok (Kept t)) new old = new
step_at (Ok (Undone t)) new old = old
step_at (Ok (Shown w)) new old = old
step_at (Err f) new old = old

abbrev pub kept_step : History → ℤ
kept_step [] = pos 0
kept_step (e ∷ h) = step_at e.1 (open_step h) (kept_step h)

-- the rule of the last grade of each point that gave a shift in the resize opened last, if there was one
abbrev pub Rules : Type 0
Rules = ℕ → Option Accepted

abbrev pub rule_of : Call → ℕ → Option Accepted → Option Accepted
rule_of (lay n) k o = o
rule_of (open_to t) k o = o
rule_of (grade m j r a w) k o = cond (k == j) (Some r) o
rule_of (keep m) k o = o
rule_of (undo m) k o = o
rule_of (show j) k o = o

abbrev pub rules_at : Call → Reply → Rules → Rules
rules_at c (Ok Laid) g k = g k
rules_at c (Ok (Ticket m)) g k = None
rules_at c (Ok (Graded z)) g k = rule_of c k (g k)
rules_at c (Ok (Kept t)) g k = g k
rules_at c (Ok (Undone t)) g k = g k
rules_at c (Ok (Shown w)) g k = g k
rules_at c (Err f) g k = g k

abbrev pub open_rules : History → Rules
open_rules [] k = None
open_rules (e ∷ h) k = rules_at e.0 e.1 (open_rules h) k

-- those rules of the resize kept last, if any was kept
abbrev pub kept_at : Reply → Rules → Option Rules → Option Rules
kept_at (Ok Laid) g o = o
kept_at (Ok (Ticket n)) g o = o
kept_at (Ok (Graded z)) g o = o
kept_at (Ok (Kept t)) g o = Some g
kept_at (Ok (Undone t)) g o = o
kept_at (Ok (Shown w)) g o = o
kept_at (Err f) g o = o

abbrev pub kept_rules : History → Option Rules
kept_rules [] = None
kept_rules (e ∷ h) = kept_at e.1 (open_rules h) (kept_rules h)

-- no resize was opened in it
abbrev pub none_opened_at : Reply → Bool → Bool
none_opened_at (Ok Laid) b = b
none_opened_at (Ok (Ticket n)) b = false
none_opened_at (Ok (Graded g)) b = b
none_opened_at (Ok (Kept t)) b = b
none_opened_at (Ok (Undone t)) b = b
none_opened_at (Ok (Shown w)) b = b
none_opened_at (Err f) b = b

abbrev pub none_opened : History → Bool
none_opened [] = true
none_opened (e ∷ h) = none_opened_at e.1 (none_opened h)

-- a run's answer: the shift and its units, or its refusal and node
abbrev pub RunAnswer : Type 0
RunAnswer = Result Grading Fault

-- how a grade of a point answers what its run came to
abbrev pub said : ℕ → RunAnswer → Reply
said k = result_map_both Graded (at_point k)

-- what a run came to, if the answer tells of one
abbrev pub run_refusal : Layer → (place : ℕ) → Option RunAnswer
run_refusal (Table cause) i = None
run_refusal (Names cause) i = None
run_refusal (Run cause) i = Some (Err (fault (Run cause) i))
run_refusal (Piece cause) i = None

abbrev pub run_of : Reply → Option RunAnswer
run_of (Ok Laid) = None
run_of (Ok (Ticket n)) = None
run_of (Ok (Graded g)) = Some (Ok g)
run_of (Ok (Kept t)) = None
run_of (Ok (Undone t)) = None
run_of (Ok (Shown w)) = None
run_of (Err f) = run_refusal f.layer f.place
