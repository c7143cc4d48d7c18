-- What of a piece its callers see, and what always holds of it.
use Rattle.std.specs.Prelude.{◌≡◌, ℕ, ◌≤◌, Bool, true, false, cond, List, [], ◌∷◌, map, length, take, replicate, ℤ, pos, Some, None, Ok, Err, Option, Result, ◌==◌, slice_set}
use Rattle.std.specs.Result.{result_map_both}
use Rattle.std.specs.Coded.{×_prop, Π_prop, Unit-prop, le_prop}
use mathlib.Core.HLevel.{×₃_prop, ⊥_prop}
use Rattle.std.proofs.Math.Nat.{ℕ_set}
use Rattle.std.proofs.Props.{props}
use Rattle.language.specs.declared.values.Value.{Value}
use Rattle.language.specs.declared.values.Value.TheVariants.{Whole as whole_value, Truth as truth_value}
use Rattle.language.specs.declared.faults.Fault.{Fault}
use Rattle.language.specs.declared.faults.Layer.TheVariants as layers
use Rattle.language.specs.declared.faults.PieceCause.TheVariants.{Ticket as TicketCause}
use Rattle.language.specs.Faults.{fault}
use Rattle.language.specs.Memory.{Memory}
use Rattle.store.specs.declared.Store.{Ghosts}
use Rattle.history.specs.declared.answers.Answer.{Answer}
use Rattle.piece.specs.declared.points.Point.{Point}
use Rattle.piece.specs.declared.pieces.Phase.{Phase}
use Rattle.piece.specs.declared.pieces.Phase.TheVariants.{Bare, Laid, Open}
use Rattle.piece.specs.declared.pieces.Piece.{Piece}
use Rattle.piece.specs.declared.pieces.Ticket.{Ticket}
use Rattle.piece.specs.declared.pieces.Returned.{Returned}
use Rattle.history.specs.States.{State, Mode, bare, laid, opened, holding, store_of, Apart, Free, with_mode, Reply}

-- the shift at a location that holds a whole number
abbrev pub shift_in : Option Value → ℤ
shift_in None = pos 0
shift_in (Some (truth_value b)) = pos 0
shift_in (Some (whole_value z)) = z

-- the location holds a shift
abbrev pub HoldsShift : Memory → ℕ → Type 0
HoldsShift σ l = σ l ≡ Some (whole_value (shift_in (σ l)))

-- each of these points' locations does
abbrev pub AllHoldShifts : Memory → List Point → Type 0
AllHoldShifts σ [] = Unit {0}
AllHoldShifts σ (x ∷ ps) = HoldsShift σ x.location × AllHoldShifts σ ps

-- of these points: their locations, the shifts that a store has there, the remembered shifts, and which are graded
abbrev pub locations : List Point → List ℕ
locations = map (λ x. x.location)

abbrev pub shifts : Memory → List Point → List ℤ
shifts σ = map (λ x. shift_in (σ x.location))

abbrev pub remembered : List Point → List ℤ
remembered = map (λ x. x.remembered)

abbrev pub marks : List Point → List Bool
marks = map (λ x. x.graded)

-- a point as a resize begins, on a store that holds σ
abbrev pub remembering : Memory → Point → Point
remembering σ x = record { location = x.location; remembered = shift_in (σ x.location); graded = false }

-- a store in which exactly these points are live, each at a location of its own that holds 0
pub record Placed (σ : Memory) (ps : List Point) : Type 0 where
  pub free : Free (locations ps)
  pub held : σ ≡ holding (locations ps) (replicate (length ps) (pos 0))

abbrev pub mode_of : Phase → Memory → List Point → Mode
mode_of Bare σ ps = bare σ
mode_of Laid σ ps = laid (locations ps) (shifts σ ps)
mode_of (Open t) σ ps = opened t (locations ps) (shifts σ ps) (remembered ps) (marks ps)

-- how many points are laid in a phase
abbrev pub Counted : Phase → ℕ → Type 0
Counted Bare n = n ≡ 0
Counted Laid n = (1 ≤ n) × (n ≤ 256)
Counted (Open t) n = (1 ≤ n) × (n ≤ 256)

-- each of these facts has one proof at most, as a fact of a type must
pub Counted_prop : (ph : Phase) (n : ℕ) → IsProp (Counted ph n)
Counted_prop Bare n = ℕ_set _ _
Counted_prop Laid n = ×_prop le_prop le_prop
Counted_prop (Open t) n = ×_prop le_prop le_prop

pub Apart_prop : (l : ℕ) (ls : List ℕ) → IsProp (Apart l ls)
Apart_prop l [] = Unit-prop
Apart_prop l (k ∷ ks) = ×_prop (Π_prop λ _. ⊥_prop) (Apart_prop l ks)

pub Free_prop : (ls : List ℕ) → IsProp (Free ls)
Free_prop [] = Unit-prop
Free_prop (l ∷ ls) = ×₃_prop le_prop (Apart_prop l ls) (Free_prop ls)

Same_prop : (σ τ : Memory) → IsProp (σ ≡ τ)
Same_prop σ τ = Prim.hlevel props

abbrev pub laid_points : {S : Type 0} → Piece S → List Point
laid_points p = take p.laid p.points

module _ {S : Type 0} (g : Ghosts S) where
  abbrev pub view : Piece S → State
  view p = record {
    number = p.number;
    limit = g.bound p.store;
    step = p.step;
    mode = mode_of p.phase (g.at p.store) (laid_points p);
  }

  -- what always holds: the laid points have locations of their own, and exactly those are live, each holding a shift
  pub record Sound (p : Piece S) : Type 0 where
    pub wide : length p.points ≡ 256
    pub counted : Counted p.phase p.laid
    pub apart : Free (locations (laid_points p))
    pub held : g.at p.store ≡ store_of (view p).mode

  -- one proof at most, as each of its facts has
  pub Sound_prop : (p : Piece S) → IsProp (Sound p)
  Sound_prop p x y i = record {
    wide = ℕ_set _ _ x.wide y.wide i;
    counted = Counted_prop p.phase p.laid x.counted y.counted i;
    apart = Free_prop (locations (laid_points p)) x.apart y.apart i;
    held = Same_prop _ _ x.held y.held i;
  }

-- a state in which a point has another shift, and is marked if a resize is open
abbrev pub mode_with_shift : Mode → ℕ → ℤ → Mode
mode_with_shift (bare σ) k z = bare σ
mode_with_shift (laid ls zs) k z = laid ls (slice_set zs k z)
mode_with_shift (opened t ls zs bs gs) k z = opened t ls (slice_set zs k z) bs (slice_set gs k true)

abbrev pub with_shift : State → ℕ → ℤ → State
with_shift s k z = with_mode s (mode_with_shift s.mode k z)

-- the new step of the open resize, if there is one and the ticket has the piece's number
abbrev pub ticket_answer : Phase → (number ticket : ℕ) → Result ℤ Fault
ticket_answer Bare n m = Err (fault (layers.Piece TicketCause) 0)
ticket_answer Laid n m = Err (fault (layers.Piece TicketCause) 0)
ticket_answer (Open t) n m = cond (m == n) (Ok t) (Err (fault (layers.Piece TicketCause) 0))

-- how a result answers a call
abbrev pub said : {A : Type 0} → (A → Answer) → Result A Fault → Reply
said f = result_map_both f (λ e. e)

abbrev pub said_back : (ℤ → Answer) → Result ℤ Returned → Reply
said_back f = result_map_both f (λ e. e.fault)

-- a ticket that is handed back is the one that came
abbrev pub Back : Ticket → Result ℤ Returned → Type 0
Back t (Ok v) = Unit {0}
Back t (Err e) = e.ticket ≡ t
