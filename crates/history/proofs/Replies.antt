-- Every call has an answer, and only one. Assumes nothing.
use Rattle.std.proofs.Common.{◌≡◌, ℕ, zero, suc, ◌+◌, ◌≤◌, Bool, true, false, cond, ◌&&◌, eqb, ltb, leb, List, [], ◌∷◌, length, replicate, ℤ, pos, Some, None, Ok, Err, Option, Result, sym, refl, ap, ◌∙◌, arith}
use Rattle.std.proofs.lemmas.Bool.{leb-true, and_parts}
use Rattle.language.specs.declared.values.Stop.{Stop}
use Rattle.language.specs.declared.values.Stop.TheVariants.{Sum, Unit as UnitStop, Stuck}
use Rattle.language.specs.declared.values.Graded.{Graded as Grading}
use Rattle.language.specs.declared.faults.PieceCause.TheVariants as causes
use Rattle.language.specs.Memory.{live}
use Rattle.language.specs.Reference.{answer}
use Rattle.language.specs.Outcome.{told}
use Rattle.history.specs.declared.answers.Answer.TheVariants.{Laid}
use Rattle.history.specs.States.{Accepted, Call, lay, open_to, grade, keep, undo, show, Mode, bare, laid, opened, State, shifts_of, holding, Apart, Free, with_mode, lowest_false, Reply, Outcome, answers_with, refused, lists_fit, does_lay, does_open, does_run, does_grade, does_end, does_keep, does_undo, does, asked_points}
use Rattle.history.specs.Promise.{Answered, AnsweredOnce}
use Rattle.history.proofs.Rules.{not_stuck}
use Rattle.history.proofs.Plain.{never}

abbrev down : ℕ → List ℕ
down zero = []
down (suc n) = n ∷ down n

length_down : (n : ℕ) → length (down n) ≡ n
length_down zero = refl
length_down (suc n) = ap suc (length_down n)

apart_down : (l n : ℕ) → n ≤ l → Apart l (down n)
apart_down l zero h = tt
apart_down l (suc n) h = (λ e. omega arith, apart_down l n (omega arith))

free_down : (n : ℕ) → n ≤ 65536 → Free (down n)
free_down zero h = tt
free_down (suc n) h = (h, apart_down n n (omega arith), free_down n (omega arith))

-- there is an answer
abbrev SomeAnswer : Outcome → Type 0
SomeAnswer o = (a : Reply) × (o.0 ≡ Some a)

either_answer : (b : Bool) (x y : Outcome) → SomeAnswer x → SomeAnswer y → SomeAnswer (cond b x y)
either_answer true x y p q = p
either_answer false x y p q = q

lay_answer : (s : State) (n : ℕ) (ls : List ℕ) (m : Mode) → SomeAnswer (does_lay ls s n m)
lay_answer s n ls (bare σ) = either_answer (leb 1 n && leb n 256) _ _ (either_answer (eqb (live σ) 0 && leb n s.limit) _ _ (_, refl) (_, refl)) (_, refl)
lay_answer s n ls (laid ks zs) = (_, refl)
lay_answer s n ls (opened t ks zs bs gs) = (_, refl)

open_answer : (s : State) (t : ℤ) (m : Mode) → SomeAnswer (does_open s t m)
open_answer s t (bare σ) = (_, refl)
open_answer s t (laid ks zs) = (_, refl)
open_answer s t (opened u ks zs bs gs) = (_, refl)

run_answer : (s : State) (k : ℕ) (t : ℤ) (ls : List ℕ) (zs bs : List ℤ) (gs : List Bool) (y : Result Grading Stop) → (y ≡ Err Stuck → ⊥) → SomeAnswer (does_run s k t ls zs bs gs (told y))
run_answer s k t ls zs bs gs (Ok g) n = (_, refl)
run_answer s k t ls zs bs gs (Err (Sum i)) n = (_, refl)
run_answer s k t ls zs bs gs (Err (UnitStop i)) n = (_, refl)
run_answer s k t ls zs bs gs (Err Stuck) n = absurd (n refl)

grade_answer : (s : State) (m k : ℕ) (r : Accepted) (a : ℕ) (w : ℕ × ℕ × ℕ) (x : Mode) → SomeAnswer (does_grade s m k r a w x)
grade_answer s m k r a w (bare σ) = (_, refl)
grade_answer s m k r a w (laid ls zs) = (_, refl)
grade_answer s m k r a w (opened t ls zs bs gs) =
    either_answer (eqb m s.number) _ _
    (either_answer (ltb k (length zs)) _ _
    (either_answer (lists_fit r w) _ _
    (either_answer (leb (live (holding ls zs) + r.need) s.limit) _ _
    (run_answer s k t ls zs bs gs (answer r.tree t a) (not_stuck r t a)) (_, refl)) (_, refl)) (_, refl)) (_, refl)

end_answer : (s : State) (t : ℤ) (ls : List ℕ) (zs : List ℤ) (o : Option ℕ) → SomeAnswer (does_end s t ls zs o)
end_answer s t ls zs None = (_, refl)
end_answer s t ls zs (Some k) = (_, refl)

keep_answer : (s : State) (m : ℕ) (x : Mode) → SomeAnswer (does_keep s m x)
keep_answer s m (bare σ) = (_, refl)
keep_answer s m (laid ls zs) = (_, refl)
keep_answer s m (opened t ls zs bs gs) = either_answer (eqb m s.number) _ _ (end_answer s t ls zs (lowest_false gs)) (_, refl)

undo_answer : (s : State) (m : ℕ) (x : Mode) → SomeAnswer (does_undo s m x)
undo_answer s m (bare σ) = (_, refl)
undo_answer s m (laid ls zs) = (_, refl)
undo_answer s m (opened t ls zs bs gs) = either_answer (eqb m s.number) _ _ (_, refl) (_, refl)

some_answer : (s : State) (c : Call) (ls : List ℕ) → SomeAnswer (does ls s c)
some_answer s (lay n) ls = lay_answer s n ls s.mode
some_answer s (open_to t) ls = open_answer s t s.mode
some_answer s (grade m k r a w) ls = grade_answer s m k r a w s.mode
some_answer s (keep m) ls = keep_answer s m s.mode
some_answer s (undo m) ls = undo_answer s m s.mode
some_answer s (show k) ls = either_answer (ltb k (length (shifts_of s.mode))) _ _ (_, refl) (_, refl)

lay_small : (s : State) (n : ℕ) (ls : List ℕ) (m : Mode) → (does_lay ls s n m).0 ≡ Some (Ok Laid) → n ≤ 256
lay_small s n ls (bare σ) e = go (leb 1 n && leb n 256) refl (eqb (live σ) 0 && leb n s.limit) e
  where
    go : (b : Bool) → (leb 1 n && leb n 256) ≡ b → (c : Bool)
        → (cond b (cond c (answers_with Laid (with_mode s (laid ls (replicate n (pos 0))))) (refused causes.Store 0 s)) (refused causes.Points 0 s)).0 ≡ Some (Ok Laid) → n ≤ 256
    go true q c e = leb-true n 256 (and_parts _ _ q).1
    go false q c e = never (cc)
lay_small s n ls (laid ks zs) e = never (cc)
lay_small s n ls (opened t ks zs bs gs) e = never (cc)

small_call : (s : State) (c : Call) (ls : List ℕ) → (does ls s c).0 ≡ Some (Ok Laid) → asked_points c ≤ 256
small_call s (lay n) ls e = lay_small s n ls s.mode e
small_call s (open_to t) ls e = omega arith
small_call s (grade m k r a w) ls e = omega arith
small_call s (keep m) ls e = omega arith
small_call s (undo m) ls e = omega arith
small_call s (show k) ls e = omega arith

pub answered : Answered
answered s c =
    let ls = down (asked_points c) in
    let (a, e) = some_answer s c ls in (
      a,
      (does ls s c).1,
      record {
        handed = ls;
        free = λ q. (length_down (asked_points c), let l = small_call s c ls (e ∙ ap Some q) in free_down (asked_points c) (omega arith));
        answers = e;
        leaves = refl;
      },
    )

-- the same answer, and the same state unless points were laid
abbrev Same : Outcome → Outcome → Type 0
Same x y = (x.0 ≡ y.0) × ((x.0 ≡ Some (Ok Laid) → ⊥) → x.1 ≡ y.1)

lay_same : (s : State) (n : ℕ) (ls ks : List ℕ) (m : Mode) → Same (does_lay ls s n m) (does_lay ks s n m)
lay_same s n ls ks (bare σ) = go (leb 1 n && leb n 256) (eqb (live σ) 0 && leb n s.limit)
  where
    go : (b c : Bool) → Same (cond b (cond c (answers_with Laid (with_mode s (laid ls (replicate n (pos 0))))) (refused causes.Store 0 s)) (refused causes.Points 0 s))
        (cond b (cond c (answers_with Laid (with_mode s (laid ks (replicate n (pos 0))))) (refused causes.Store 0 s)) (refused causes.Points 0 s))
    go true true = (refl, λ f. absurd (f refl))
    go true false = (refl, λ f. refl)
    go false c = (refl, λ f. refl)
lay_same s n ls ks (laid js zs) = (refl, λ f. refl)
lay_same s n ls ks (opened t js zs bs gs) = (refl, λ f. refl)

same : (s : State) (c : Call) (ls ks : List ℕ) → Same (does ls s c) (does ks s c)
same s (lay n) ls ks = lay_same s n ls ks s.mode
same s (open_to t) ls ks = (refl, λ f. refl)
same s (grade m k r a w) ls ks = (refl, λ f. refl)
same s (keep m) ls ks = (refl, λ f. refl)
same s (undo m) ls ks = (refl, λ f. refl)
same s (show k) ls ks = (refl, λ f. refl)

pub answered_once : AnsweredOnce
answered_once s s' s'' c a b d e =
    let (p, q) = same s c d.handed e.handed in
    let is : Some a ≡ Some b = sym d.answers ∙ p ∙ e.answers in
    let r : a ≡ b = cc in
    (r, λ f. d.leaves ∙ q (λ z. let v : Some (Ok Laid) ≡ Some a = sym z ∙ d.answers in let w : Ok Laid ≡ a = cc in f (sym w)) ∙ sym e.leaves)
