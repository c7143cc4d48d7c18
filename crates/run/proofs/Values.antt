-- An expression worked out node by node comes to what its tree does.
use Rattle.std.proofs.Common.{◌≡◌, ℕ, zero, suc, ◌+◌, ◌-◌, ◌<◌, ◌≤◌, Bool, List, [], ◌∷◌, length, Some, None, Ok, Err, Option, Result, sym, refl, ap, ◌∙◌, arith}
use Rattle.language.specs.declared.tables.Node.{Node}
use Rattle.language.specs.declared.tables.Kind.{Kind}
use Rattle.language.specs.declared.tables.Kind.TheVariants.{Truth, Whole, Read, Plus, Less, Or, Null, Assign, If, While, Call, Argument, Decl, Proc, Block}
use Rattle.language.specs.declared.values.Value.{Value}
use Rattle.language.specs.declared.values.Stop.{Stop}
use Rattle.language.specs.declared.values.Stop.TheVariants.{Stuck}
use Rattle.language.specs.Memory.{Memory}
use Rattle.language.specs.Values.{sum, less_than, either_true}
use Rattle.language.specs.Results.{or_else}
use Rattle.language.specs.Results as R
use Rattle.language.specs.Reference.{as_truth}
use Rattle.language.specs.Tree.{Arg, Expr, truth, whole, read, plus, less, or}
use Rattle.language.specs.Sight.{find}
use Rattle.language.specs.Runs.{Env, give, ◌>>=◌, value, test, located, fetch, answered, locations}
use Rattle.table.specs.Stretches.{node_at}
use Rattle.table.specs.Walk.{start_at}
use Rattle.run.specs.declared.levels.Level.{Level}
use Rattle.run.specs.Levels.{newest_first, values, PoppedValue}
use Rattle.run.specs.Evaluation.{Locator, node_done, nodes_done, only, evaluated}
use Rattle.run.specs.Shapes.{kind_at, ExprKind, Shaped, Trees, Forest, PairShape}
use Rattle.run.specs.Machine.{outcome, args_located}
use Rattle.run.proofs.Steps.{answered_is, bind_outcome}

infixl 20 ◌>>>◌
abbrev ◌>>>◌ : {A B : Type 0} → Result A Stop → (A → Result B Stop) → Result B Stop
r >>> k = R.◌>>=◌ r k

-- node by node
pub done_on : (ns : List Node) (ρ : Locator) (σ : Memory) (j e : ℕ) (vs vs' : List Value) → j < e → node_done ρ σ (kind_at ns j) j (node_at ns j) vs ≡ Ok vs'
    → nodes_done ns ρ σ j (e - j) vs ≡ nodes_done ns ρ σ (j + 1) (e - (j + 1)) vs'
unfolding nodes_done
done_on ns ρ σ j e vs vs' h q = let n : e - j ≡ suc (e - (j + 1)) = omega arith in rw (n, q)

pub done_stop : (ns : List Node) (ρ : Locator) (σ : Memory) (j e : ℕ) (vs : List Value) (s : Stop) → j < e → node_done ρ σ (kind_at ns j) j (node_at ns j) vs ≡ Err s
    → nodes_done ns ρ σ j (e - j) vs ≡ Err s
unfolding nodes_done
done_stop ns ρ σ j e vs s h q = let n : e - j ≡ suc (e - (j + 1)) = omega arith in rw (n, q)

pub done_all : (ns : List Node) (ρ : Locator) (σ : Memory) (j e : ℕ) (vs : List Value) → e ≤ j → nodes_done ns ρ σ j (e - j) vs ≡ Ok vs
unfolding nodes_done
done_all ns ρ σ j e vs h = let n : e - j ≡ 0 = omega arith in rw n

-- the newest value is taken off: it was the only one, or one of more, or there was none
pub only_value : (vs : List Level) (d h h' : ℕ) (v : Value) → PoppedValue vs d h h' (Some v) → h' ≡ 0 → only (Ok (values vs d h)) ≡ Ok v
unfolding newest_first
only_value vs d h h' v p e = rw (p.1, e) refl

pub more_values : (vs : List Level) (d h h' : ℕ) (v : Value) → PoppedValue vs d h h' (Some v) → (h' ≡ 0 → ⊥) → only (Ok (values vs d h)) ≡ Err Stuck
unfolding newest_first
more_values vs d h zero v p n = absurd (n refl)
more_values vs d h (suc h') v p n = rw p.1 refl

pub no_value : (vs : List Level) (d h h' : ℕ) → PoppedValue vs d h h' None → only (Ok (values vs d h)) ≡ Err Stuck
unfolding newest_first
no_value vs d h h' p = rw p.0 refl

assoc : {A B C : Type 0} (r : Result A Stop) (f : A → Result B Stop) (k : B → Result C Stop) → (r >>> f >>> k) ≡ (r >>> λ a. f a >>> k)
assoc (Ok a) f k = refl
assoc (Err s) f k = refl

cong : {A B : Type 0} (r : Result A Stop) (f k : A → Result B Stop) → ((a : A) → f a ≡ k a) → (r >>> f) ≡ (r >>> k)
cong (Ok a) f k h = h a
cong (Err s) f k h = refl

steps : (ns : List Node) (ρ : Locator) (σ : Memory) (j e : ℕ) (vs : List Value) → j < e
    → nodes_done ns ρ σ j (e - j) vs ≡ node_done ρ σ (kind_at ns j) j (node_at ns j) vs >>> nodes_done ns ρ σ (j + 1) (e - (j + 1))
unfolding nodes_done
steps ns ρ σ j e vs h = let n : e - j ≡ suc (e - (j + 1)) = omega arith in rw n

module _ (ns : List Node) (ls : List ℕ) (sh : Shaped ns ls) (F : Forest) (t : Trees ns ls F) (ρ : Locator) (σ : Memory) where
  abbrev rest : ℕ → ℕ → List Value → Value → Result (List Value) Stop
  rest i e vs v = nodes_done ns ρ σ (i + 1) (e - (i + 1)) (v ∷ vs)

  abbrev Comes : ℕ → Type 0
  Comes i = (e : ℕ) (vs : List Value) → i < e → nodes_done ns ρ σ (start_at ls i) (e - start_at ls i) vs ≡ evaluated ρ σ (F.expr i) >>> rest i e vs

  leaf : (i : ℕ) (k : Option Kind) → kind_at ns i ≡ k → start_at ls i ≡ i
      → ((vs : List Value) → node_done ρ σ k i (node_at ns i) vs ≡ evaluated ρ σ (F.expr i) >>> λ v. Ok (v ∷ vs)) → Comes i
  leaf i k q s h e vs l =
      rw (s, steps ns ρ σ i e vs l, q, h vs) (assoc (evaluated ρ σ (F.expr i)) (λ v. Ok (v ∷ vs)) (nodes_done ns ρ σ (i + 1) (e - (i + 1))))

  pair : (i : ℕ) (k : Option Kind) (f : Value → Value → Result Value Stop) → kind_at ns i ≡ k → i < length ns → PairShape ns ls i
      → ((v w : Value) (vs : List Value) → node_done ρ σ k i (node_at ns i) (w ∷ v ∷ vs) ≡ f v w >>> λ x. Ok (x ∷ vs))
      → evaluated ρ σ (F.expr i) ≡ evaluated ρ σ (F.expr (start_at ls (i - 1) - 1)) >>> (λ v. evaluated ρ σ (F.expr (i - 1)) >>> λ w. f v w)
      → Comes (start_at ls (i - 1) - 1) → Comes (i - 1) → Comes i
  pair i k f q lt sp h ev pl pr e vs l =
      let b : ℕ = i - 1 in
      let a : ℕ = start_at ls b - 1 in
      let one : 1 ≤ i = sp.right in
      let two : 1 ≤ start_at ls (i - 1) = sp.left in
      let sb : start_at ls (i - 1) ≤ i - 1 = sh.begins (i - 1) (omega arith) in
      let ea : start_at ls (i - 1) - 1 + 1 ≡ start_at ls (i - 1) = omega arith in
      let eb : i - 1 + 1 ≡ i = omega arith in
      let la : start_at ls (i - 1) - 1 < e = omega arith in
      let lb : i - 1 < e = omega arith in
      let first : nodes_done ns ρ σ (start_at ls i) (e - start_at ls i) vs ≡ evaluated ρ σ (F.expr (start_at ls (i - 1) - 1)) >>> rest (start_at ls (i - 1) - 1) e vs
      = rw sp.from (pl e vs la) in
      let last : (v w : Value) → rest (i - 1) e (v ∷ vs) w ≡ f v w >>> rest i e vs
      = λ v w. rw (eb, steps ns ρ σ i e (w ∷ v ∷ vs) l, q, h v w vs) (assoc (f v w) (λ x. Ok (x ∷ vs)) (nodes_done ns ρ σ (i + 1) (e - (i + 1)))) in
      let second : (v : Value) → rest (start_at ls (i - 1) - 1) e vs v ≡ (evaluated ρ σ (F.expr (i - 1)) >>> λ w. f v w) >>> rest i e vs
      = λ v. rw ea (pr e (v ∷ vs) lb ∙ cong (evaluated ρ σ (F.expr (i - 1))) _ _ (last v) ∙ sym (assoc (evaluated ρ σ (F.expr (i - 1))) (λ w. f v w) (rest i e vs))) in
      first
      ∙ cong (evaluated ρ σ (F.expr (start_at ls (i - 1) - 1))) _ _ second
      ∙ sym (assoc (evaluated ρ σ (F.expr (start_at ls (i - 1) - 1))) (λ v. evaluated ρ σ (F.expr (i - 1)) >>> λ w. f v w) (rest i e vs))
      ∙ ap (λ (r : Result Value Stop). r >>> rest i e vs) (sym ev)

  at_kind : (i : ℕ) (k : Option Kind) → kind_at ns i ≡ k → i < length ns → ExprKind k → (PairShape ns ls i → Comes (start_at ls (i - 1) - 1) × Comes (i - 1)) → Comes i
  at_kind i (Some Truth) q l x r = leaf i (Some Truth) q (sh.of_truth i l q) (λ vs. rw (t.truths i l q) refl)
  at_kind i (Some Whole) q l x r = leaf i (Some Whole) q (sh.of_whole i l q) (λ vs. rw (t.wholes i l q) refl)
  at_kind i (Some Read) q l x r = leaf i (Some Read) q (sh.of_read i l q) (λ vs. rw (t.reads i l q) refl)
  at_kind i (Some Plus) q l x r =
      let s = sh.of_plus i l q in
      pair i (Some Plus) (sum i) q l s (λ v w vs. refl) (rw (t.pluses i l q) refl) (r s).0 (r s).1
  at_kind i (Some Less) q l x r =
      let s = sh.of_less i l q in
      pair i (Some Less) less_than q l s (λ v w vs. refl) (rw (t.lesses i l q) refl) (r s).0 (r s).1
  at_kind i (Some Or) q l x r =
      let s = sh.of_or i l q in
      pair i (Some Or) either_true q l s (λ v w vs. refl) (rw (t.ors i l q) refl) (r s).0 (r s).1
  at_kind i (Some Null) q l x r = absurd x
  at_kind i (Some Assign) q l x r = absurd x
  at_kind i (Some If) q l x r = absurd x
  at_kind i (Some While) q l x r = absurd x
  at_kind i (Some Call) q l x r = absurd x
  at_kind i (Some Argument) q l x r = absurd x
  at_kind i (Some Decl) q l x r = absurd x
  at_kind i (Some Proc) q l x r = absurd x
  at_kind i (Some Block) q l x r = absurd x
  at_kind i None q l x r = absurd x

  comes : (fuel i : ℕ) → i < fuel → i < length ns → ExprKind (kind_at ns i) → Comes i
  comes zero i h l x = absurd (omega arith)
  comes (suc fuel) i h l x =
      at_kind i (kind_at ns i) refl l x
      (λ s.
      let one : 1 ≤ i = s.right in
      let two : 1 ≤ start_at ls (i - 1) = s.left in
      let sb : start_at ls (i - 1) ≤ i - 1 = sh.begins (i - 1) (omega arith) in
      (comes fuel (start_at ls (i - 1) - 1) (omega arith) (omega arith) s.left_kind, comes fuel (i - 1) (omega arith) (omega arith) s.right_kind))

  only_same : (r : Result Value Stop) → only (r >>> λ v. Ok (v ∷ [])) ≡ r
  only_same (Ok v) = refl
  only_same (Err s) = refl

  -- the stack code of an expression gives what its tree comes to
  pub nodes_evaluated : (i : ℕ) → i < length ns → ExprKind (kind_at ns i) → only (nodes_done ns ρ σ (start_at ls i) (i + 1 - start_at ls i) []) ≡ evaluated ρ σ (F.expr i)
  nodes_evaluated i l x =
      let last : (v : Value) → rest i (i + 1) [] v ≡ Ok (v ∷ []) = λ v. done_all ns ρ σ (i + 1) (i + 1) (v ∷ []) (omega arith) in
      ap only (comes (i + 1) i (omega arith) l x (i + 1) [] (omega arith) ∙ cong (evaluated ρ σ (F.expr i)) (rest i (i + 1) []) (λ v. Ok (v ∷ [])) last)
      ∙ only_same (evaluated ρ σ (F.expr i))

-- a sight is what an environment says of locations
abbrev pub Sights : Env → Locator → Type 0
Sights ρ s = (m : ℕ) (σ : Memory) (u : ℕ) → located (find m ρ) σ u (outcome (s m) σ u)

pair_outcome : (ρ : Env) (s : Locator) (e f : Expr) (g : Value → Value → Result Value Stop) (σ : Memory) (u : ℕ)
    → value ρ e σ u (outcome (evaluated s σ e) σ u) → value ρ f σ u (outcome (evaluated s σ f) σ u)
    → (value ρ e >>= λ v. value ρ f >>= λ w. answered (g v w)) σ u (outcome (evaluated s σ e >>> λ v. evaluated s σ f >>> λ w. g v w) σ u)
pair_outcome ρ s e f g σ u p q =
    bind_outcome (value ρ e) (evaluated s σ e) (λ v. value ρ f >>= λ w. answered (g v w)) (λ v. evaluated s σ f >>> λ w. g v w) σ u p
    (λ v. bind_outcome (value ρ f) (evaluated s σ f) (λ w. answered (g v w)) (g v) σ u q (λ w. answered_is (g v w) σ u))

pub value_comes : (ρ : Env) (s : Locator) → Sights ρ s → (e : Expr) (σ : Memory) (u : ℕ) → value ρ e σ u (outcome (evaluated s σ e) σ u)
value_comes ρ s h (truth b) σ u = refl
value_comes ρ s h (whole z) σ u = refl
value_comes ρ s h (read i m) σ u = bind_outcome (located (find m ρ)) (s m) fetch (λ l. or_else Stuck (σ l)) σ u (h m σ u) (λ l. answered_is (or_else Stuck (σ l)) σ u)
value_comes ρ s h (plus i e f) σ u = pair_outcome ρ s e f (sum i) σ u (value_comes ρ s h e σ u) (value_comes ρ s h f σ u)
value_comes ρ s h (or i e f) σ u = pair_outcome ρ s e f either_true σ u (value_comes ρ s h e σ u) (value_comes ρ s h f σ u)
value_comes ρ s h (less i e f) σ u = pair_outcome ρ s e f less_than σ u (value_comes ρ s h e σ u) (value_comes ρ s h f σ u)

-- what `evaluate` answers is what the tree may come to
pub evaluates : (ns : List Node) (ls : List ℕ) (ρ : Env) (s : Locator) (σ : Memory) (i : ℕ) (r : Result Value Stop) → Shaped ns ls → i < length ns → ExprKind (kind_at ns i)
    → r ≡ only (nodes_done ns s σ (start_at ls i) (i + 1 - start_at ls i) []) → Sights ρ s
    → (F : Forest) → Trees ns ls F → (u : ℕ) → value ρ (F.expr i) σ u (outcome r σ u)
evaluates ns ls ρ s σ i r sh l x e h F t u = rw (e, nodes_evaluated ns ls sh F t s σ i l x) (value_comes ρ s h (F.expr i) σ u)

pub tested : (ns : List Node) (ls : List ℕ) (ρ : Env) (s : Locator) (σ : Memory) (i : ℕ) (r : Result Value Stop) (b : Result Bool Stop) → Shaped ns ls → i < length ns → ExprKind (kind_at ns i)
    → r ≡ only (nodes_done ns s σ (start_at ls i) (i + 1 - start_at ls i) []) → b ≡ (r >>> as_truth) → Sights ρ s
    → (F : Forest) → Trees ns ls F → (u : ℕ) → test ρ (F.expr i) σ u (outcome b σ u)
tested ns ls ρ s σ i r b sh l x e q h F t u =
    rw q (bind_outcome (value ρ (F.expr i)) r (λ v. answered (as_truth v)) as_truth σ u (evaluates ns ls ρ s σ i r sh l x e h F t u) (λ v. answered_is (as_truth v) σ u))

-- what the arguments come to
pub locations_outcome : (ρ : Env) (s : Locator) → Sights ρ s → (xs : List Arg) (σ : Memory) (u : ℕ) → locations ρ xs σ u (outcome (args_located s xs) σ u)
locations_outcome ρ s h [] σ u = refl
locations_outcome ρ s h (x ∷ xs) σ u =
    bind_outcome (located (find x.name ρ)) (s x.name) (λ l. locations ρ xs >>= λ ls. give (l ∷ ls)) (λ l. args_located s xs >>> λ ls. Ok (l ∷ ls)) σ u (h x.name σ u)
    (λ l. bind_outcome (locations ρ xs) (args_located s xs) (λ ls. give (l ∷ ls)) (λ ls. Ok (l ∷ ls)) σ u (locations_outcome ρ s h xs σ u) (λ ls. refl))
