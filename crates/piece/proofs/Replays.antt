-- Lists of calls. Assumes nothing.
use Rattle.std.proofs.Common.{◌≡◌, ℕ, ◌+◌, ◌<◌, List, [], ◌∷◌, ◌++◌, length, get_or, take, set, pos, Ok, Err, Result, sym, refl, ap, ◌∙◌, subst, arith, Bor, MatchResult}
use Rattle.std.proofs.lemmas.List.{take_more, take_more_set, take_at, take_all}
use Rattle.language.specs.declared.tables.Node.{Node}
use Rattle.language.specs.declared.faults.Fault.{Fault}
use Rattle.language.specs.Tree.{Com, null}
use Rattle.language.specs.Spelling.{node}
use Rattle.language.specs.Check.{right_size, long_enough, check}
use Rattle.language.proofs.Binds.{asked_ok}
use Rattle.rule.specs.Accepted.{verdict}
use Rattle.store.specs.declared.Store.{Ghosts}
use Rattle.history.specs.States as calls
use Rattle.history.specs.States.{Accepted, State, Reply, fresh, Does}
use Rattle.history.specs.Histories.{History, Start, Reached}
use Rattle.history.proofs.Whole.{always}
use Rattle.piece.specs.declared.pieces.Piece.{Piece}
use Rattle.piece.specs.declared.lists.Call.{Call}
use Rattle.piece.specs.declared.lists.Call.TheVariants.{Lay, Open, Grade, Keep, Undo, Show}
use Rattle.piece.specs.Views.{view, Sound}
use Rattle.piece.specs.declared.lists.ReplayLists.{ReplayLists}
use Rattle.piece.specs.Replay.{table_at, chosen, Lists, checked, check_lengths, run_lengths, SameLengths, Meant, Told, Replayed, start}
use Rattle.history.proofs.Plain.{never}

-- the table in the place after a check
pub chosen_is : {P : Unit {0} → Type 0} {Q : Fault → Type 0} (o : Result (Com × ℕ) Fault) (v : Result (Unit {0}) Fault) (nodes found : List Node)
    → v ≡ verdict o → MatchResult v P Q → ((u : Unit {0}) → P u → found ≡ nodes) → ((f : Fault) → Q f → found ≡ chosen (Err f) nodes) → found ≡ chosen o nodes
chosen_is (Ok c) (Ok u) nodes found e h good bad = good u h
chosen_is (Ok c) (Err f) nodes found e h good bad = never (cc)
chosen_is (Err f) (Ok u) nodes found e h good bad = never (cc)
chosen_is (Err f) (Err f') nodes found e h good bad = bad f' h

pub triple : {a b c a' b' c' : ℕ} → a ≡ a' → b ≡ b' → c ≡ c' → ◌≡◌ {A = Lists} (a, b, c) (a', b', c')
triple {a} {b} {c} {a'} {b'} {c'} p q r = ap {B = Lists} (λ x. (x, b, c)) p ∙ ap {B = Lists} (λ x. (a', x, c)) q ∙ ap {B = Lists} (λ x. (a', b', x)) r

-- a grade knows its lists by their lengths alone
pub grades_alike : {s s' : State} {m k a n n' b v : ℕ} {r : Accepted} {x : Reply} → n ≡ n' → Does s (calls.grade m k r a (n, b, v)) x s' → Does s (calls.grade m k r a (n', b, v)) x s'
grades_alike {s} {s'} {m} {k} {a} {n} {n'} {b} {v} {r} {x} e d = subst (λ (l : ℕ). Does s (calls.grade m k r a (l, b, v)) x s') e d

-- some rule is chosen
accepted_by : (nodes : List Node) (l : Lists) → (r : Accepted) × (r.table ≡ checked nodes l)
accepted_by nodes l = go (check nodes l.0 l.1 l.2) refl
  where
    go : (o : Result (Com × ℕ) Fault) → check nodes l.0 l.1 l.2 ≡ o → (r : Accepted) × (r.table ≡ chosen o nodes)
    go (Ok p) e =
        let (sized, e₁) = asked_ok (right_size (length nodes)) _ _ p e in
        let (_, e₂) = asked_ok (long_enough (length nodes) l.0 l.1 l.2) _ _ p e₁ in
        (record { table = nodes; tree = p.0; need = p.1; reads = e₂; sized = sized }, refl)
    go (Err f) e = (record { table = node 6 0 (pos 0) 0 0 0 ∷ []; tree = null 0; need = 2; reads = refl; sized = refl }, refl)

-- each call asks something of the piece
meant : (ts : List (Bor (List Node))) (l w : Lists) (c : Call) → (a : calls.Call) × Meant ts l w c a
meant ts l w (Lay n) = (calls.lay n, refl)
meant ts l w (Open t) = (calls.open_to t, refl)
meant ts l w (Grade q) = let (r, e) = accepted_by (table_at ts q.table) l in (calls.grade q.ticket q.point r q.allowance w, (r, e, refl))
meant ts l w (Keep m) = (calls.keep m, refl)
meant ts l w (Undo m) = (calls.undo m, refl)
meant ts l w (Show k) = (calls.show k, refl)

-- the first i calls are performed on q, with lists as long as the first
pub record Playing {S : Type 0} (g : Ghosts S) (p : Start) (ts : List (Bor (List Node))) (first lists : ReplayLists) (cs : List Call) (xs : List Reply) (i : ℕ) (q : Piece S) : Type 0 where
  pub sound : Sound g q
  pub history : History
  pub told : Told ts (check_lengths first) (run_lengths first) (take i cs) (take i xs) history
  pub reached : Reached p history (view g q)
  pub same : SameLengths first lists

module _ {S : Type 0} (g : Ghosts S) where
  pub none_played : (s : S) (n : ℕ) (ts : List (Bor (List Node))) (lists : ReplayLists) (cs : List Call) (xs : List Reply) (q : Piece S)
      → Sound g q → view g q ≡ fresh n (g.bound s) (g.at s) → q.store ≡ s → Playing g (start g q.store n) ts lists lists cs xs 0 q
  none_played s n ts lists cs xs q sound v e = record {
    sound = sound;
    history = [];
    told = (refl, refl);
    reached = v ∙ ap (λ (x : S). fresh n (g.bound x) (g.at x)) (sym e);
    same = (refl, refl);
  }

  pub one_played : (p : Start) (ts : List (Bor (List Node))) (first lists lists' : ReplayLists) (cs : List Call) (xs : List Reply) (i : ℕ) (q q' : Piece S) (x : Reply) (c d : Call)
      → Playing g p ts first lists cs xs i q → SameLengths lists lists' → i < length cs → i < length xs → get_or cs i d ≡ c → Sound g q'
      → ((a : calls.Call) → Meant ts (check_lengths lists) (run_lengths lists) c a → Does (view g q) a x (view g q')) → Playing g p ts first lists' cs (set xs i x) (i + 1) q'
  one_played p ts first lists lists' cs xs i q q' x c d P s hc hx ec sound does =
      let (a, m) = meant ts (check_lengths first) (run_lengths first) c in
      let m' : Meant ts (check_lengths lists) (run_lengths lists) c a =
      subst (λ (v : Lists). Meant ts (check_lengths lists) v c a) (sym P.same.1) (subst (λ (v : Lists). Meant ts v (run_lengths first) c a) (sym P.same.0) m) in
      record {
        sound = sound;
        history = (a, x) ∷ P.history;
        told = (c, take i cs, take i xs, take_more cs i d hc ∙ ap (λ (v : Call). take i cs ++ v ∷ []) ec, take_more_set xs i x hx, m, P.told);
        reached = (view g q, P.reached, does a m');
        same = (s.0 ∙ P.same.0, s.1 ∙ P.same.1);
      }

  pub all_played : (s s' : S) (k : ℕ) (ts : List (Bor (List Node))) (first lists : ReplayLists) (cs : List Call) (xs rest : List Reply) (i n : ℕ) (q : Piece S)
      → Playing g (start g s k) ts first lists cs xs i q → s ≡ s' → i ≡ n → length xs ≡ n
      → Replayed (start g s' k) ts (check_lengths first) (run_lengths first) (take n cs) (take n (xs ++ rest))
  all_played s s' k ts first lists cs xs rest i n q P es e ex =
      let same : take i xs ≡ take n (xs ++ rest) = take_all i xs (omega arith) ∙ sym (take_at xs rest n ex) in
      subst (λ (m : ℕ). Replayed (start g s' k) ts (check_lengths first) (run_lengths first) (take m cs) (take n (xs ++ rest))) e
      (subst (λ (ys : List Reply). Replayed (start g s' k) ts (check_lengths first) (run_lengths first) (take i cs) ys) same
      (subst (λ (x : S). Replayed (start g x k) ts (check_lengths first) (run_lengths first) (take i cs) (take i xs)) es
      (record { history = P.history; told = P.told; after = view g q; reached = P.reached; here = always (start g s k) P.history (view g q) P.reached })))
