-- A block's variables and a call's formals, one at a time.
use Rattle.std.proofs.Common.{◌≡◌, ℕ, zero, suc, ◌+◌, ◌-◌, ◌<◌, ◌≤◌, Bool, true, false, eqb, ◌≢◌, List, [], ◌∷◌, ◌++◌, length, set, Some, None, Ok, Err, Option, Result, sym, refl, ap, ◌∙◌, inl, inr, add-zero, add-one, arith, length-append, length-set, get_or-set_same, eqb-true}
use borrow.Author.Tests.{eqb-false}
use Rattle.language.specs.declared.tables.Node.{Node}
use Rattle.language.specs.declared.values.Value.{Value}
use Rattle.language.specs.declared.values.Stop.{Stop}
use Rattle.language.specs.declared.values.Stop.TheVariants.{Stuck}
use Rattle.language.specs.Memory.{Memory, put, live}
use Rattle.language.specs.Values.{initial_value}
use Rattle.language.specs.Results as R
use Rattle.language.specs.Table.{type_of}
use Rattle.language.specs.Tree.{Arg}
use Rattle.language.specs.Runs.{ended, stopped, take_one, take_all, release, release_all}
use Rattle.scope.specs.Calls.{linked}
use Rattle.store.specs.Calls.{Taken, release_answer}
use Rattle.store.specs.declared.Dead.{Dead}
use Rattle.table.specs.Stretches.{node_at}
use Rattle.run.specs.declared.bindings.Binding.TheVariants.{Place}
use Rattle.run.specs.Names.{Records, record_at, no_record, sees, as_place, Linked, SameBelow, locations_from, location_of}
use Rattle.run.specs.Evaluation.{Locator}
use Rattle.run.specs.Shapes.{row, decls_at, args_at, decl_at, arg_at}
use Rattle.run.specs.Machine.{Open, VariablesIn, Bind, args_located}
use Rattle.run.proofs.Sights.{found_same, locations_same, same_set, same_then, linked_push}
use Rattle.run.proofs.Steps.{take_snoc, take_snoc_stop, take_stop_more, release_snoc, release_stop_more}

infixl 20 ◌>>>◌
abbrev ◌>>>◌ : {A B : Type 0} → Result A Stop → (A → Result B Stop) → Result B Stop
r >>> k = R.◌>>=◌ r k

pub length_row : {A : Type 0} (piece : List Node → ℕ → A) (ns : List Node) (s n : ℕ) → length (row piece ns s n) ≡ n
unfolding row
length_row piece ns s zero = refl
length_row piece ns s (suc n) = rw (length-append, length_row piece ns s n, add-one) refl

pub variables_same : (ns : List Node) (s : ℕ) (rs rs' : Records) (M m p n p' : ℕ) → SameBelow rs rs' M → m + n ≤ M → VariablesIn ns s rs m p n p' → VariablesIn ns s rs' m p n p'
unfolding VariablesIn
variables_same ns s rs rs' M m p zero p' q h d = d
variables_same ns s rs rs' M m p (suc n) p' q h d =
    let e : record_at rs' (m + n) ≡ record_at rs (m + n) = q (m + n) (omega arith) in
    (d.0, rw e d.1, rw e d.2, variables_same ns s rs rs' M m p n (record_at rs' (m + n)).next q (omega arith) (rw e d.3))

-- one more variable
module _ (ns : List Node) (s k : ℕ) (rs : Records) (m p p₁ l : ℕ) (w : p₁ ≤ m + k) (h : m + k < length rs) where
  abbrev pub more : Records
  more = set rs (m + k) (linked (node_at ns (s + k)).name (Place l) p₁)

  at_more : record_at more (m + k) ≡ linked (node_at ns (s + k)).name (Place l) p₁
  at_more = get_or-set_same rs (m + k) (linked (node_at ns (s + k)).name (Place l) p₁) no_record h

  same_more : SameBelow rs more (m + k)
  same_more = same_set rs (m + k) _ (m + k) (omega arith)

  pub linked_more : Linked rs (m + k) → Linked more (m + (k + 1))
  linked_more q = let sum : m + (k + 1) ≡ m + k + 1 = omega arith in rw sum (linked_push rs (m + k) _ h w q)

  pub variables_more : VariablesIn ns s rs m p k p₁ → VariablesIn ns s more m p (k + 1) (m + k + 1)
  unfolding VariablesIn
  variables_more d =
      let d' : VariablesIn ns s more m p k p₁ = variables_same ns s rs more (m + k) m p k p₁ same_more (omega arith) d in
      rw add-one (refl, rw at_more refl, rw at_more refl, rw at_more d')

  pub locations_more : locations_from more m (k + 1) ≡ locations_from rs m k ++ l ∷ []
  unfolding locations_from
  locations_more = rw (add-one, at_more, locations_same rs more (m + k) m k same_more (omega arith)) refl

pub open_first : (L : ℕ) (ns : List Node) (s : ℕ) (rs : Records) (m p : ℕ) (σ : Memory) → p ≤ m → Linked rs m → Open L ns s 0 m p σ rs σ p
unfolding row locations_from VariablesIn
open_first L ns s rs m p σ h l = record { within = omega arith; linked = rw add-zero l; variables = refl; takes = λ u. refl }

pub open_more : (L : ℕ) (ns : List Node) (s k : ℕ) (m p : ℕ) (σ : Memory) (rs₁ : Records) (σ₁ : Memory) (p₁ : ℕ) (l : ℕ) (σ₂ : Memory) (b : ℕ) (v : Value)
    → Open L ns s k m p σ rs₁ σ₁ p₁ → m + k < length rs₁ → v ≡ initial_value (type_of (node_at ns (s + k)).value) → b ≡ L → Taken b σ₁ σ₂ v (Ok l)
    → Open L ns s (k + 1) m p σ (set rs₁ (m + k) (linked (node_at ns (s + k)).name (Place l) p₁)) σ₂ (m + k + 1)
unfolding row
open_more L ns s k m p σ rs₁ σ₁ p₁ l σ₂ b v o h q e t =
    record {
      within = omega arith;
      linked = linked_more ns s k rs₁ m p p₁ l o.within h o.linked;
      variables = variables_more ns s k rs₁ m p p₁ l o.within h o.variables;
      takes = λ u.
          let one_more : take_one L (initial_value (type_of (node_at ns (s + k)).value)) σ₁ u (ended l σ₂ u)
          = inr (l, (rw e at t.2), t.0, t.1, rw (t.3, q) refl) in
          rw (locations_more ns s k rs₁ m p p₁ l o.within h, add-one) (take_snoc L (decls_at ns s k) (decl_at ns (s + k)) σ u (locations_from rs₁ m k) σ₁ u l σ₂ u (o.takes u) one_more);
    }

-- k variables are taken and recorded on top of the records rs, which are in use up to m and seen from p
pub record Opening (L : ℕ) (ns : List Node) (s k : ℕ) (rs : Records) (m p : ℕ) (σ : Memory) (rs₁ : Records) (m₁ p₁ : ℕ) (σ₁ : Memory) : Type 0 where
  pub older : SameBelow rs rs₁ m
  pub long : length rs₁ ≡ length rs
  pub top : m₁ ≡ m + k
  pub open_block : Open L ns s k m p σ rs₁ σ₁ p₁

pub opening_first : (L : ℕ) (ns : List Node) (s : ℕ) (rs : Records) (m p : ℕ) (σ : Memory) → p ≤ m → Linked rs m → Opening L ns s 0 rs m p σ rs m p σ
opening_first L ns s rs m p σ h l = record { older = λ k lt. refl; long = refl; top = omega arith; open_block = open_first L ns s rs m p σ h l }

pub opening_more : (L : ℕ) (ns : List Node) (s k : ℕ) (rs : Records) (m p : ℕ) (σ : Memory) (rs₁ : Records) (m₁ p₁ : ℕ) (σ₁ : Memory) (rs₂ : Records) (m₂ p₂ : ℕ) (σ₂ : Memory) (l b : ℕ) (n : Node) (v : Value)
    → Opening L ns s k rs m p σ rs₁ m₁ p₁ σ₁ → m₁ < length rs₁ → n ≡ node_at ns (s + k) → v ≡ initial_value (type_of n.value) → b ≡ L → Taken b σ₁ σ₂ v (Ok l)
    → rs₂ ≡ set rs₁ m₁ (linked n.name (Place l) p₁) → m₂ ≡ m₁ + 1 → p₂ ≡ m₁ + 1 → Opening L ns s (k + 1) rs m p σ rs₂ m₂ p₂ σ₂
opening_more L ns s k rs m p σ rs₁ m₁ p₁ σ₁ rs₂ m₂ p₂ σ₂ l b n v o h q w e t er em ep =
    let top : m₁ ≡ m + k = o.top in
    let er' : rs₂ ≡ set rs₁ (m + k) (linked (node_at ns (s + k)).name (Place l) p₁) = rw (top, q) at er in
    let w' : v ≡ initial_value (type_of (node_at ns (s + k)).value) = rw q at w in
    let ep' : p₂ ≡ m + k + 1 = omega arith in
    record {
      older = rw er' (same_then rs rs₁ _ m o.older (same_set rs₁ (m + k) _ m (omega arith)));
      long = rw er' (length-set rs₁ (m + k) _ ∙ o.long);
      top = omega arith;
      open_block = rw (er', ep') (open_more L ns s k m p σ rs₁ σ₁ p₁ l σ₂ b v o.open_block (omega arith) w' e t);
    }

-- what holds at j and passes on from each number to the next holds from j on
from : (P : ℕ → Type 0) → ((k : ℕ) → P k → P (suc k)) → (j n : ℕ) → j ≤ n → P j → P n
from P on j zero h p = let e : j ≡ 0 = omega arith in rw e at p
from P on j (suc n) h p = go (eqb j (suc n)) refl (from P on j n)
  where
    go : (b : Bool) → eqb j (suc n) ≡ b → (j ≤ n → P j → P n) → P (suc n)
    go true e k = let q : j ≡ suc n = eqb-true j (suc n) e in rw q at p
    go false e k = let q : j ≢ suc n = eqb-false j (suc n) e in on n (k (omega arith) p)

pub open_stop : (L : ℕ) (ns : List Node) (s k n : ℕ) (m p : ℕ) (σ : Memory) (rs₁ : Records) (σ₁ σ₂ : Memory) (p₁ : ℕ) (b : ℕ)
    → Open L ns s k m p σ rs₁ σ₁ p₁ → k < n → b ≡ L → live σ₁ ≡ b → σ₂ ≡ σ₁
    → (u : ℕ) → take_all L (decls_at ns s n) σ u (stopped Stuck σ₂)
unfolding row
open_stop L ns s k n m p σ rs₁ σ₁ σ₂ p₁ b o h e t q u =
    from (λ i. take_all L (decls_at ns s i) σ u (stopped Stuck σ₂)) (λ i x. take_stop_more L (decls_at ns s i) _ σ u Stuck σ₂ x) (suc k) n (omega arith)
    (take_snoc_stop L (decls_at ns s k) (decl_at ns (s + k)) σ u (locations_from rs₁ m k) σ₁ u Stuck σ₂ (o.takes u) (inl (t ∙ e, ap (stopped Stuck) q)))

-- what a release of the store does
released_as : (l : ℕ) (σ : Memory) (u : ℕ) (o : Option Value) → σ l ≡ o → Ok tt ≡ release_answer o → release l σ u (ended tt (put σ l None) u)
released_as l σ u None q e = let z : ◌≡◌ {A = ℕ} 0 1 = cc in absurd (omega arith)
released_as l σ u (Some w) q e = inr (w, σ, u, rw q refl, refl)

not_released_as : (l : ℕ) (σ : Memory) (u : ℕ) (o : Option Value) (d : Dead) → σ l ≡ o → Err d ≡ release_answer o → release l σ u (stopped Stuck σ)
not_released_as l σ u None d q e = inl (Stuck, σ, rw q refl, refl)
not_released_as l σ u (Some w) d q e = let z : ◌≡◌ {A = ℕ} 0 1 = cc in absurd (omega arith)

pub released : (l : ℕ) (σ σ' : Memory) (u : ℕ) → Ok tt ≡ release_answer (σ l) → σ' ≡ put σ l None → release l σ u (ended tt σ' u)
released l σ σ' u e k = rw k (released_as l σ u (σ l) refl e)

pub not_released : (l : ℕ) (σ σ' : Memory) (u : ℕ) (d : Dead) → Err d ≡ release_answer (σ l) → σ' ≡ σ → release l σ u (stopped Stuck σ')
not_released l σ σ' u d e k = rw k (not_released_as l σ u (σ l) d refl e)

pub close_more : (rs : Records) (m k : ℕ) (σ : Memory) (u : ℕ) (σ₁ σ₂ : Memory) (l : ℕ) → m ≤ k → l ≡ location_of (record_at rs k).entry
    → release_all (locations_from rs m (k - m)) σ u (ended tt σ₁ u) → release l σ₁ u (ended tt σ₂ u) → release_all (locations_from rs m (k + 1 - m)) σ u (ended tt σ₂ u)
unfolding locations_from
close_more rs m k σ u σ₁ σ₂ l h e r t =
    let n : k + 1 - m ≡ suc (k - m) = omega arith in
    let q : m + (k - m) ≡ k = omega arith in
    rw (n, q, ← e) (release_snoc (locations_from rs m (k - m)) l σ u σ₁ u (ended tt σ₂ u) r t)

pub close_stop : (rs : Records) (m k end : ℕ) (σ : Memory) (u : ℕ) (σ₁ σ₂ : Memory) (l : ℕ) → m ≤ k → k < end → l ≡ location_of (record_at rs k).entry
    → release_all (locations_from rs m (k - m)) σ u (ended tt σ₁ u) → release l σ₁ u (stopped Stuck σ₂) → release_all (locations_from rs m (end - m)) σ u (stopped Stuck σ₂)
unfolding locations_from
close_stop rs m k end σ u σ₁ σ₂ l h lt e r t =
    let q : m + (k - m) ≡ k = omega arith in
    from (λ i. release_all (locations_from rs m i) σ u (stopped Stuck σ₂)) (λ i x. release_stop_more (locations_from rs m i) _ σ u Stuck σ₂ x) (suc (k - m)) (end - m) (omega arith)
    (rw (q, ← e) (release_snoc (locations_from rs m (k - m)) l σ u σ₁ u (stopped Stuck σ₂) r t))

pub close_none : (rs : Records) (m : ℕ) (σ : Memory) (u : ℕ) → release_all (locations_from rs m (m - m)) σ u (ended tt σ u)
unfolding locations_from
close_none rs m σ u = let z : m - m ≡ 0 = omega arith in rw z refl

-- arguments, one at a time
regroup : (r : Result ℕ Stop) (s : Result (List ℕ) Stop) (t : Result ℕ Stop)
    → (r >>> λ l₀. (s >>> λ ls. t >>> λ l. Ok (ls ++ l ∷ [])) >>> λ ks. Ok (l₀ ∷ ks)) ≡ (r >>> (λ l₀. s >>> λ ls. Ok (l₀ ∷ ls)) >>> λ ls. t >>> λ l. Ok (ls ++ l ∷ []))
regroup (Err e) s t = refl
regroup (Ok a) (Err e) t = refl
regroup (Ok a) (Ok b) (Err e) = refl
regroup (Ok a) (Ok b) (Ok c) = refl

args_snoc : (ρ : Locator) (xs : List Arg) (x : Arg) → args_located ρ (xs ++ x ∷ []) ≡ args_located ρ xs >>> λ ls. ρ x.name >>> λ l. Ok (ls ++ l ∷ [])
args_snoc ρ [] x = refl
args_snoc ρ (y ∷ xs) x =
    ap (λ (s : Result (List ℕ) Stop). ρ y.name >>> λ l₀. s >>> λ ks. Ok (l₀ ∷ ks)) (args_snoc ρ xs x) ∙ regroup (ρ y.name) (args_located ρ xs) (ρ x.name)

pub bind_first : (ns : List Node) (t s : ℕ) (rs : Records) (q m p : ℕ) → p ≤ m → Linked rs m → Bind ns t s 0 rs q m p rs p
unfolding row locations_from VariablesIn
bind_first ns t s rs q m p h l = record { within = omega arith; linked = rw add-zero l; variables = refl; locates = refl }

-- the argument is seen as it was before any formal was entered
seen_still : (rs rs₁ : Records) (m q x : ℕ) → SameBelow rs rs₁ m → q ≤ m → m ≤ length rs → length rs₁ ≡ length rs → sees rs q x ≡ sees rs₁ q x
seen_still rs rs₁ m q x same h n e = ap as_place (sym (found_same rs rs₁ m q x same h n e))

pub bind_more : (ns : List Node) (t s k : ℕ) (rs : Records) (q m p : ℕ) (rs₁ : Records) (p₁ l : ℕ)
    → Bind ns t s k rs q m p rs₁ p₁ → SameBelow rs rs₁ m → q ≤ m → m ≤ length rs → length rs₁ ≡ length rs → m + k < length rs₁ → Ok l ≡ sees rs₁ q (node_at ns (t + k)).name
    → Bind ns t s (k + 1) rs q m p (set rs₁ (m + k) (linked (node_at ns (s + k)).name (Place l) p₁)) (m + k + 1)
unfolding row
bind_more ns t s k rs q m p rs₁ p₁ l b same qm mn len h e =
    let here : sees rs q (node_at ns (t + k)).name ≡ Ok l = seen_still rs rs₁ m q (node_at ns (t + k)).name same qm mn len ∙ sym e in
    record {
      within = omega arith;
      linked = linked_more ns s k rs₁ m p p₁ l b.within h b.linked;
      variables = variables_more ns s k rs₁ m p p₁ l b.within h b.variables;
      locates = rw (locations_more ns s k rs₁ m p p₁ l b.within h, add-one) (args_snoc (sees rs q) (args_at ns t k) (arg_at ns (t + k)) ∙ rw (b.locates, here) refl);
    }

pub bind_stop : (ns : List Node) (t s k n : ℕ) (rs : Records) (q m p : ℕ) (rs₁ : Records) (p₁ : ℕ) (x : Stop)
    → Bind ns t s k rs q m p rs₁ p₁ → SameBelow rs rs₁ m → q ≤ m → m ≤ length rs → length rs₁ ≡ length rs → k < n → Err x ≡ sees rs₁ q (node_at ns (t + k)).name
    → args_located (sees rs q) (args_at ns t n) ≡ Err x
unfolding row
bind_stop ns t s k n rs q m p rs₁ p₁ x b same qm mn len h e =
    let here : sees rs q (node_at ns (t + k)).name ≡ Err x = seen_still rs rs₁ m q (node_at ns (t + k)).name same qm mn len ∙ sym e in
    from (λ i. args_located (sees rs q) (args_at ns t i) ≡ Err x) (λ i y. args_snoc (sees rs q) (args_at ns t i) (arg_at ns (t + i)) ∙ rw y refl) (suc k) n (omega arith)
    (args_snoc (sees rs q) (args_at ns t k) (arg_at ns (t + k)) ∙ rw (b.locates, here) refl)

-- k arguments are bound: the formals are recorded on top of the records rs, which are in use up to m; q sees the arguments
pub record BindingOn (ns : List Node) (t s k : ℕ) (rs : Records) (q m p : ℕ) (rs₁ : Records) (m₁ p₁ : ℕ) : Type 0 where
  pub older : SameBelow rs rs₁ m
  pub long : length rs₁ ≡ length rs
  pub top : m₁ ≡ m + k
  pub bound : Bind ns t s k rs q m p rs₁ p₁

pub binding_first : (ns : List Node) (t s : ℕ) (rs : Records) (q m p : ℕ) → p ≤ m → Linked rs m → BindingOn ns t s 0 rs q m p rs m p
binding_first ns t s rs q m p h l = record { older = λ k lt. refl; long = refl; top = omega arith; bound = bind_first ns t s rs q m p h l }

pub binding_more : (ns : List Node) (t s k : ℕ) (rs : Records) (q m p : ℕ) (rs₁ : Records) (m₁ p₁ : ℕ) (rs₂ : Records) (m₂ p₂ : ℕ) (l : ℕ) (a f : Node)
    → BindingOn ns t s k rs q m p rs₁ m₁ p₁ → q ≤ m → m ≤ length rs → m₁ < length rs₁ → a ≡ node_at ns (t + k) → f ≡ node_at ns (s + k) → Ok l ≡ sees rs₁ q a.name
    → rs₂ ≡ set rs₁ m₁ (linked f.name (Place l) p₁) → m₂ ≡ m₁ + 1 → p₂ ≡ m₁ + 1 → BindingOn ns t s (k + 1) rs q m p rs₂ m₂ p₂
binding_more ns t s k rs q m p rs₁ m₁ p₁ rs₂ m₂ p₂ l a f o qm mn h ea ef e er em ep =
    let top : m₁ ≡ m + k = o.top in
    let er' : rs₂ ≡ set rs₁ (m + k) (linked (node_at ns (s + k)).name (Place l) p₁) = rw (top, ef) at er in
    let e' : Ok l ≡ sees rs₁ q (node_at ns (t + k)).name = rw ea at e in
    let ep' : p₂ ≡ m + k + 1 = omega arith in
    record {
      older = rw er' (same_then rs rs₁ _ m o.older (same_set rs₁ (m + k) _ m (omega arith)));
      long = rw er' (length-set rs₁ (m + k) _ ∙ o.long);
      top = omega arith;
      bound = rw (er', ep') (bind_more ns t s k rs q m p rs₁ p₁ l o.bound o.older qm mn o.long (omega arith) e');
    }

pub binding_stop : (ns : List Node) (t s k n : ℕ) (rs : Records) (q m p : ℕ) (rs₁ : Records) (m₁ p₁ : ℕ) (x : Stop) (a : Node)
    → BindingOn ns t s k rs q m p rs₁ m₁ p₁ → q ≤ m → m ≤ length rs → k < n → a ≡ node_at ns (t + k) → Err x ≡ sees rs₁ q a.name
    → args_located (sees rs q) (args_at ns t n) ≡ Err x
binding_stop ns t s k n rs q m p rs₁ m₁ p₁ x a o qm mn h ea e =
    bind_stop ns t s k n rs q m p rs₁ p₁ x o.bound o.older qm mn o.long h (rw ea at e)
