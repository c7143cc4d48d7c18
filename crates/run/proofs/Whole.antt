-- A whole run: its parts as steps of the relation, and what its end says.
use Rattle.std.proofs.Common.{◌≡◌, ℕ, ◌+◌, ◌-◌, ◌≤◌, Bool, true, false, cond, leb, List, [], ◌∷◌, length, take, ℤ, pos, Some, None, Ok, Err, Option, Result, sym, refl, ap, ◌∙◌, subst, inl, inr, arith, get_or-take}
use Rattle.std.proofs.lemmas.Bool.{leb-true, and_parts, cond-true}
use Rattle.language.specs.declared.tables.Node.{Node}
use Rattle.language.specs.declared.values.Value.{Value}
use Rattle.language.specs.declared.values.Value.TheVariants.{Whole as whole_value}
use Rattle.language.specs.declared.values.Stop.{Stop}
use Rattle.language.specs.declared.values.Stop.TheVariants.{Stuck}
use Rattle.language.specs.declared.values.Graded.{Graded}
use Rattle.language.specs.declared.faults.Fault.{Fault}
use Rattle.language.specs.declared.faults.Layer.TheVariants.{Piece}
use Rattle.language.specs.declared.faults.PieceCause.TheVariants.{Room}
use Rattle.language.specs.declared.faults.TableCause.TheVariants.{WorkLists}
use Rattle.language.specs.Check.{long_enough, read_rule}
use Rattle.language.specs.Faults.{fault}
use Rattle.language.specs.Laws.{AsAnswered}
use Rattle.language.specs.Memory.{Memory, live}
use Rattle.language.specs.Names.{check_rule}
use Rattle.language.specs.Outcome.{outcome_of, told}
use Rattle.language.specs.Reference.{as_whole, answer, graded}
use Rattle.language.specs.Results.{asked}
use Rattle.language.specs.Results as R
use Rattle.language.specs.Runs.{Out, ended, stopped, ◌releasing◌, take_one, fetch, answered, release, release_all, runs}
use Rattle.language.specs.Table.{refusal, build}
use Rattle.language.specs.Tree.{Com}
use Rattle.language.proofs.Sound.{sound_runs}
use Rattle.rule.specs.Accepted.{Accepted}
use Rattle.store.specs.Calls.{Taken, read_answer}
use Rattle.store.specs.declared.Full.{Full}
use Rattle.store.specs.declared.Dead.{Dead}
use Rattle.table.specs.Measured.{Lengths}
use Rattle.table.proofs.Frames.{com_frame}
use Rattle.run.specs.Machine.{outcome}
use Rattle.run.specs.Parts.{number_left, whole_command, whole_result}
use Rattle.run.specs.Answers.{questions, run_answer, Runnable, RunGives, NoStuckRun}

-- ---- the calls of the store
taken : (L : ℕ) (v : Value) (σ σ' : Memory) (u l : ℕ) → Taken L σ σ' v (Ok l) → take_one L v σ u (ended l σ' u)
taken L v σ σ' u l h = inr (l, h.2, h.0, h.1, ap (λ (τ : Memory). ended l τ u) h.3)

full : (L : ℕ) (v : Value) (σ σ' : Memory) (u : ℕ) (e : Full) → Taken L σ σ' v (Err e) → take_one L v σ u (stopped Stuck σ')
full L v σ σ' u e h = inl (h.0, ap (λ (τ : Memory). stopped Stuck τ) h.1)

fetched_live : (σ : Memory) (l : ℕ) (v : Value) → σ l ≡ Some v → (u : ℕ) → fetch l σ u (ended v σ u)
fetched_live σ l v e u = rw e refl

fetched_dead : (σ : Memory) (l : ℕ) → σ l ≡ None → (u : ℕ) → fetch l σ u (stopped Stuck σ)
fetched_dead σ l e u = rw e refl

read_live : (w : Option Value) (v : Value) → Ok v ≡ read_answer w → w ≡ Some v
read_live None v e = cc
read_live (Some x) v e = cc

read_dead : (w : Option Value) (d : Dead) → Err d ≡ read_answer w → w ≡ None
read_dead None d e = refl
read_dead (Some x) d e = cc

pub released_both : (i o : ℕ) (σ σ₁ σ₂ : Memory) (r : Result (Unit {0}) Stop)
    → ((u : ℕ) → release i σ u (ended tt σ₁ u)) → ((u : ℕ) → release o σ₁ u (outcome r σ₂ u)) → (u : ℕ) → release_all (i ∷ o ∷ []) σ u (outcome r σ₂ u)
released_both i o σ σ₁ σ₂ (Ok x) h k u = inr (tt, σ₁, u, h u, inr (x, σ₂, u, k u, refl))
released_both i o σ σ₁ σ₂ (Err s) h k u = inr (tt, σ₁, u, h u, inl (s, σ₂, k u, refl))

pub first_kept : (i o : ℕ) (σ σ₁ : Memory) (s : Stop) → ((u : ℕ) → release i σ u (stopped s σ₁)) → (u : ℕ) → release_all (i ∷ o ∷ []) σ u (stopped s σ₁)
first_kept i o σ σ₁ s h u = inl (s, σ₁, h u, refl)

-- ---- the command and what `out` holds after it
module _ (L i o : ℕ) (c : Com) (σ : Memory) (u : ℕ) where
  pub result_stopped : (s : Stop) (σ' : Memory) → whole_command L i o c σ u (stopped s σ') → whole_result L i o c σ u (stopped s σ')
  result_stopped s σ' h = inl (s, σ', h, refl)

  pub result_dead : (σ' : Memory) (w : ℕ) (d : Dead) → whole_command L i o c σ u (ended tt σ' w) → Err d ≡ read_answer (σ' o) → whole_result L i o c σ u (stopped Stuck σ')
  result_dead σ' w d h e = inr (tt, σ', w, h, inl (Stuck, σ', fetched_dead σ' o (read_dead (σ' o) d e) w, refl))

  read_result : (σ' : Memory) (w : ℕ) (v : Value) (x : Out ℤ) → whole_command L i o c σ u (ended tt σ' w) → Ok v ≡ read_answer (σ' o)
      → answered (as_whole v) σ' w x → whole_result L i o c σ u x
  read_result σ' w v x h e k = inr (tt, σ', w, h, inr (v, σ', w, fetched_live σ' o v (read_live (σ' o) v e) w, k))

  pub result_whole : (σ' : Memory) (w : ℕ) (v : Value) (z z' : ℤ) → z' ≡ z → whole_command L i o c σ u (ended tt σ' w) → Ok v ≡ read_answer (σ' o)
      → Ok z ≡ as_whole v → whole_result L i o c σ u (ended z' σ' w)
  result_whole σ' w v z z' f h e q =
      rw f (read_result σ' w v _ h e (subst (λ (r : Result ℤ Stop). answered r σ' w (ended z σ' w)) q refl))

  pub result_no_whole : (σ' : Memory) (w : ℕ) (v : Value) (s : Stop) → whole_command L i o c σ u (ended tt σ' w) → Ok v ≡ read_answer (σ' o)
      → Err s ≡ as_whole v → whole_result L i o c σ u (stopped s σ')
  result_no_whole σ' w v s h e q = read_result σ' w v _ h e (subst (λ (r : Result ℤ Stop). answered r σ' w (stopped s σ')) q refl)

-- ---- both locations taken, the command, and both released
module _ (L : ℕ) (c : Com) (step : ℤ) (σ : Memory) (a : ℕ) where
  input_taken : (s : ℤ) (σ₁ : Memory) (i : ℕ) → s ≡ step → Taken L σ σ₁ (whole_value s) (Ok i) → take_one L (whole_value step) σ a (ended i σ₁ a)
  input_taken s σ₁ i t h = rw t at (taken L (whole_value s) σ σ₁ a i h)

  pub no_input : (s : ℤ) (σ₁ : Memory) (e : Full) → s ≡ step → Taken L σ σ₁ (whole_value s) (Err e) → runs L c step σ a (stopped Stuck σ₁)
  no_input s σ₁ e t h =
      let h' : Taken L σ σ₁ (whole_value step) (Err e) = subst (λ (z : ℤ). Taken L σ σ₁ (whole_value z) (Err e)) t h in
      inl (Stuck, σ₁, full L _ σ σ₁ a e h', refl)

  pub no_output : (s : ℤ) (σ₁ σ₂ : Memory) (i L₁ : ℕ) (e : Full) → s ≡ step → L₁ ≡ L
      → Taken L σ σ₁ (whole_value s) (Ok i) → Taken L₁ σ₁ σ₂ (whole_value (pos 0)) (Err e) → runs L c step σ a (stopped Stuck σ₂)
  no_output s σ₁ σ₂ i L₁ e t q h k =
      let k' : Taken L σ₁ σ₂ (whole_value (pos 0)) (Err e) = subst (λ (n : ℕ). Taken n σ₁ σ₂ (whole_value (pos 0)) (Err e)) q k in
      inr (i, σ₁, a, input_taken s σ₁ i t h, inl (Stuck, σ₂, full L _ σ₁ σ₂ a e k', refl))

  module _ (s : ℤ) (σ₁ σ₂ : Memory) (i o L₁ L₂ : ℕ) (t : s ≡ step) (p : L₁ ≡ L) (q : L₂ ≡ L₁)
      (h : Taken L σ σ₁ (whole_value s) (Ok i)) (k : Taken L₁ σ₁ σ₂ (whole_value (pos 0)) (Ok o)) where
    both_taken : (x : Out ℤ) → (whole_result L i o c releasing (i ∷ o ∷ [])) σ₂ a x → runs L c step σ a x
    both_taken x y =
        let k' : Taken L σ₁ σ₂ (whole_value (pos 0)) (Ok o) = subst (λ (n : ℕ). Taken n σ₁ σ₂ (whole_value (pos 0)) (Ok o)) p k in
        inr (i, σ₁, a, input_taken s σ₁ i t h, inr (o, σ₂, a, taken L _ σ₁ σ₂ a o k', y))

    same_limit : (x : Out ℤ) → whole_result L₂ i o c σ₂ a x → whole_result L i o c σ₂ a x
    same_limit x y = subst (λ (n : ℕ). whole_result n i o c σ₂ a x) (q ∙ p) y

    pub run_released : (σ₃ σ₄ : Memory) (r : Result (ℤ × ℕ) Stop) → whole_result L₂ i o c σ₂ a (number_left r σ₃)
        → ((u : ℕ) → release_all (i ∷ o ∷ []) σ₃ u (ended tt σ₄ u)) → runs L c step σ a (number_left r σ₄)
    run_released σ₃ σ₄ (Ok y) x f = both_taken _ (inr (y.0, σ₃, y.1, same_limit _ x, inr (tt, σ₄, y.1, f y.1, refl)))
    run_released σ₃ σ₄ (Err e) x f = both_taken _ (inl (e, σ₃, same_limit _ x, inr (tt, σ₄, 0, f 0, refl)))

    pub run_not_released : (σ₃ σ₄ : Memory) (r : Result (ℤ × ℕ) Stop) (f : Stop) → whole_result L₂ i o c σ₂ a (number_left r σ₃)
        → ((u : ℕ) → release_all (i ∷ o ∷ []) σ₃ u (stopped f σ₄)) → runs L c step σ a (stopped f σ₄)
    run_not_released σ₃ σ₄ (Ok y) f x k = both_taken _ (inr (y.0, σ₃, y.1, same_limit _ x, inl (f, σ₄, k y.1, refl)))
    run_not_released σ₃ σ₄ (Err e) f x k = both_taken _ (inl (e, σ₃, same_limit _ x, inl (f, σ₄, k 0, refl)))

-- ---- the lengths of a table in a longer list
pub lengths_front : (ns : List Node) (ls : List ℕ) → Lengths ns ls → Lengths ns (take (length ns) ls)
lengths_front ns ls w =
    record {
      rule = w.rule;
      built = w.built;
      stands = com_frame ns ls (take (length ns) ls) 0 w.rule 0 (λ k lt. sym (get_or-take (length ns) ls k 0 (omega (arith, w.whole)))) w.stands;
      whole = w.whole;
    }

-- ---- an accepted rule
bind_ok : {E A B : Type 0} (r : Result A E) (f : A → Result B E) (b : B) → R.◌>>=◌ r f ≡ Ok b → (a : A) × (r ≡ Ok a) × (f a ≡ Ok b)
bind_ok (Ok a) f b e = (a, refl, e)
bind_ok (Err x) f b e = absurd (let z : ◌≡◌ {A = ℕ} 0 1 = cc in omega arith)

ok_is : {x y : Com × ℕ} → ◌≡◌ {A = Result (Com × ℕ) Fault} (Ok x) (Ok y) → x ≡ y
ok_is e = cc

read_parts : (ns : List Node) (c : Com) (need : ℕ) → read_rule ns ≡ Ok (c, need) → (build ns ≡ Ok c) × (check_rule c ≡ Ok need)
read_parts ns c need e =
    let (d, p, e₁) = bind_ok (build ns) (λ d. R.◌>>=◌ (check_rule d) (λ n. Ok (d, n))) (c, need) e in
    let (n, q, e₂) = bind_ok (check_rule d) (λ n. Ok (d, n)) (c, need) e₁ in
    let same : d ≡ c = ap (λ (x : Com × ℕ). x.0) (ok_is e₂) in
    let need_is : n ≡ need = ap (λ (x : Com × ℕ). x.1) (ok_is e₂) in
    (p ∙ ap Ok same, ap check_rule (sym same) ∙ q ∙ ap Ok need_is)

-- ---- the two questions
both_asked : (b d : Bool) (e f : Fault) (x : Unit {0}) → Ok x ≡ R.◌>>=◌ (asked b e) (λ _. asked d f) → (b ≡ true) × (d ≡ true)
both_asked true true e f x q = (refl, refl)
both_asked true false e f x q = absurd (let z : ◌≡◌ {A = ℕ} 0 1 = cc in omega arith)
both_asked false d e f x q = absurd (let z : ◌≡◌ {A = ℕ} 0 1 = cc in omega arith)

pub long_lists : (n need l m k limit count : ℕ) (x : Unit {0}) → Ok x ≡ questions n need l m k limit count → (n + 2 ≤ l) × (n + 2 ≤ m) × (n + 2 ≤ k)
long_lists n need l m k limit count x q =
    let (p, r) = and_parts _ _ (both_asked _ _ _ _ x q).0 in
    let (s, t) = and_parts _ _ p in
    (leb-true _ _ s, leb-true _ _ t, leb-true _ _ r)

-- what an end of the run says of the answer r, where the store meant σ and then σ'
pub record Finished (ns : List Node) (need : ℕ) (step : ℤ) (a l m k limit : ℕ) (σ σ' : Memory) (r : Result Graded Fault) : Type 0 where
  pub answers : Some r ≡ run_answer ns need step a l m k limit (live σ)
  pub own_run : (c : Com) → Runnable ns need l m k limit (live σ) c → RunGives limit c step σ a r
  pub never_stuck : (c : Com) → Runnable ns need l m k limit (live σ) c → NoStuckRun limit c step σ a
  pub store_kept : σ' ≡ σ

-- what is known of a copy of the table and of the step
pub accepted_same : {ns table : List Node} {need : ℕ} → ns ≡ table → Accepted ns need → Accepted table need
accepted_same {ns} {table} {need} e w = subst (λ (t : List Node). Accepted t need) e w

pub ran_same : {ns table : List Node} {given step : ℤ} {limit a : ℕ} {σ : Memory} {o : Out ℤ} → ns ≡ table → given ≡ step
    → ((c : Com) → build ns ≡ Ok c → runs limit c given σ a o) → (c : Com) → build table ≡ Ok c → runs limit c step σ a o
ran_same {ns} {table} {given} {step} {limit} {a} {σ} {o} e f h c b = subst (λ (z : ℤ). runs limit c z σ a o) f (h c (ap build e ∙ b))

module _ (ns : List Node) (need : ℕ) (step : ℤ) (a l m k limit : ℕ) (σ σ' : Memory) (within : live σ ≤ limit) where
  means : (c : Com) → Runnable ns need l m k limit (live σ) c → (o : Out ℤ) → runs limit c step σ a o → AsAnswered c step a σ o
  means c r = sound_runs limit σ c need step a (read_parts ns c need r.reads).1 (let room : need ≤ limit - live σ = leb-true _ _ r.room in omega arith)

  never : (c : Com) → Runnable ns need l m k limit (live σ) c → NoStuckRun limit c step σ a
  never c r τ h = (means c r (stopped Stuck τ) h).0 refl

  -- a question that says no is the answer
  pub refused : (f : Fault) → σ' ≡ σ → Err f ≡ questions (length ns) need l m k limit (live σ) → Finished ns need step a l m k limit σ σ' (Err f)
  refused f kept q =
      record {
        answers = asked_first (long_enough (length ns) l m k) (leb need (limit - live σ)) _ _ _ q;
        own_run = λ c r. absurd (not_both _ _ (refusal WorkLists 0) (fault (Piece Room) 0) r.lists r.room q);
        never_stuck = never;
        store_kept = kept;
      }
    where
      asked_first : (b d : Bool) (e g : Fault) (o : Option (Result Graded Fault)) → Err f ≡ R.◌>>=◌ (asked b e) (λ _. asked d g)
          → Some (Err f) ≡ cond b (cond d o (Some (Err g))) (Some (Err e))
      asked_first true true e g o q = cc
      asked_first true false e g o q = cc
      asked_first false d e g o q = cc

      not_both : (b d : Bool) (e g : Fault) → b ≡ true → d ≡ true → Err f ≡ R.◌>>=◌ (asked b e) (λ _. asked d g) → ⊥
      not_both true true e g p r q = let z : ◌≡◌ {A = ℕ} 0 1 = cc in omega arith
      not_both true false e g p r q = let z : ◌≡◌ {A = ℕ} 0 1 = cc in omega arith
      not_both false d e g p r q = let z : ◌≡◌ {A = ℕ} 0 1 = cc in omega arith

  module _ (w : Accepted ns need) (x : Unit {0}) (q : Ok x ≡ questions (length ns) need l m k limit (live σ)) where
    runnable : Runnable ns need l m k limit (live σ) w.rule
    runnable = let b = both_asked _ _ _ _ x q in record { reads = w.reads; lists = b.0; room = b.1 }

    answer_told : run_answer ns need step a l m k limit (live σ) ≡ told (answer w.rule step a)
    answer_told =
        cond-true (long_enough (length ns) l m k) _ _ runnable.lists ∙ cond-true (leb need (limit - live σ)) _ _ runnable.room
        ∙ ap (λ (r : Result (Com × ℕ) Fault). outcome_of r step a) w.reads

    same_rule : (c : Com) → Runnable ns need l m k limit (live σ) c → w.rule ≡ c
    same_rule c r = let e : ◌≡◌ {A = Result (Com × ℕ) Fault} (Ok (w.rule, need)) (Ok (c, need)) = sym w.reads ∙ r.reads in ap (λ (x : Com × ℕ). x.0) (ok_is e)

    as_answered : (o : Out ℤ) → ((c : Com) → build ns ≡ Ok c → runs limit c step σ a o) → AsAnswered w.rule step a σ o
    as_answered o h = means w.rule runnable o (h w.rule (read_parts ns w.rule need w.reads).0)

    pub units_within : (z : ℤ) (u : ℕ) → ((c : Com) → build ns ≡ Ok c → runs limit c step σ a (ended z σ' u)) → u ≤ a
    units_within z u h = (as_answered _ h).0

    pub not_stuck : (s : Stop) → ((c : Com) → build ns ≡ Ok c → runs limit c step σ a (stopped s σ')) → s ≡ Stuck → ⊥
    not_stuck s h = (as_answered _ h).0

    ended_finished : (z : ℤ) (u : ℕ) → ((c : Com) → build ns ≡ Ok c → runs limit c step σ a (ended z σ' u))
        → Finished ns need step a l m k limit σ σ' (Ok (graded z (a - u)))
    ended_finished z u h =
        let s = as_answered _ h in
        let b : a - (a - u) ≡ u = omega (arith, s.0) in
        record {
          answers = sym (answer_told ∙ ap told s.1);
          own_run = λ c r. (omega arith, own c (same_rule c r) b s.2);
          never_stuck = never;
          store_kept = s.2;
        }
      where
        own : (c : Com) → w.rule ≡ c → a - (a - u) ≡ u → σ' ≡ σ → runs limit c step σ a (ended z σ (a - (a - u)))
        own c e b q =
            subst (λ (x : ℕ). runs limit c step σ a (ended z σ x)) (sym b)
            (subst (λ (τ : Memory). runs limit c step σ a (ended z τ u)) q (h c ((read_parts ns w.rule need w.reads).0 ∙ ap Ok e)))

    pub finished : (z z' : ℤ) (u : ℕ) → z' ≡ z → ((c : Com) → build ns ≡ Ok c → runs limit c step σ a (ended z σ' u))
        → Finished ns need step a l m k limit σ σ' (Ok (graded z' (a - u)))
    finished z z' u f h = rw f (ended_finished z u h)

    pub finished_stopped : (s : Stop) (f : Fault) → told (Err s) ≡ Some (Err f) → ((c : Com) → build ns ≡ Ok c → runs limit c step σ a (stopped s σ'))
        → Finished ns need step a l m k limit σ σ' (Err f)
    finished_stopped s f t h =
        let q = as_answered _ h in
        record {
          answers = sym (answer_told ∙ ap told q.1 ∙ t);
          own_run = λ c r. (s, q.0, t, subst (λ (τ : Memory). runs limit c step σ a (stopped s τ)) q.2 (h c ((read_parts ns w.rule need w.reads).0 ∙ ap Ok (same_rule c r))));
          never_stuck = never;
          store_kept = q.2;
        }
