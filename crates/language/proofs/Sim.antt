-- Steps of a run on any store, held to outcomes of the reference: each outcome of the step is the reference's.
use Rattle.std.proofs.Common.{◌≡◌, ℕ, zero, suc, ◌≤◌, List, Ok, Err, Result, sym, refl, ap, ◌∙◌, subst, inl, inr, arith}
use Rattle.language.specs.declared.values.Stop.{Stop}
use Rattle.language.specs.declared.values.Stop.TheVariants.{Sum, Unit as UnitStop, Stuck}
use Rattle.language.specs.Memory.{Memory}
use Rattle.language.specs.Results as R
use Rattle.language.specs.Runs as M
use Rattle.language.specs.Runs.{Out, ended, stopped, Step, give, stop, answered, tick, release_all, ◌releasing◌}
use Rattle.language.proofs.Binds.{no_ok}

-- an outcome of the step and one of the reference: both stop alike, never stuck, with a store of which B holds; or both end, with the store and the units that are named
pub data Agree {A X : Type 0} (B : Memory → Type 0) (mem : A → X → Memory) (left : A → X → ℕ) (T : A → X → Type 0) (o : Out A) (x : Result X Stop) : Type 0 where
  stops : (s : Stop) (τ : Memory) → o ≡ stopped s τ → x ≡ Err s → (s ≡ Stuck → ⊥) → B τ → Agree B mem left T o x
  ends : (a : A) (y : X) → o ≡ ended a (mem a y) (left a y) → x ≡ Ok y → T a y → Agree B mem left T o x

pub record Sim {A X : Type 0} (limit : ℕ) (B : Memory → Type 0) (m : Step A) (σ : Memory) (u : ℕ) (mem : A → X → Memory) (left : A → X → ℕ) (T : A → X → Type 0) (x : Result X Stop) : Type 0 where
  pub run : (o : Out A) → m σ u o → Agree B mem left T o x
  pub goes : limit ≤ 65536 → (o : Out A) × m σ u o

abbrev Fam : {A B : Type 0} → (A → Step B) → Out B → Out A → Type 0
Fam k o (ended a σ u) = k a σ u o
Fam k o (stopped s τ) = Unit {0}

abbrev IsEnd : {A : Type 0} → Out A → Type 0
IsEnd (ended a σ u) = Unit {0}
IsEnd (stopped s τ) = ⊥

abbrev IsNamed : Stop → Type 0
IsNamed (Sum i) = Unit {0}
IsNamed (UnitStop i) = Unit {0}
IsNamed Stuck = ⊥

pub sum≢stuck : {i : ℕ} → Sum i ≡ Stuck → ⊥
sum≢stuck e = subst IsNamed e tt

pub unit≢stuck : {i : ℕ} → UnitStop i ≡ Stuck → ⊥
unit≢stuck e = subst IsNamed e tt

pub end≢stop : {A : Type 0} {a : A} {σ τ : Memory} {u : ℕ} {s : Stop} → ended a σ u ≡ stopped s τ → ⊥
end≢stop e = subst IsEnd e tt

pub stop_is : {A : Type 0} {s t : Stop} {σ τ : Memory} → ◌≡◌ {A = Out A} (stopped s σ) (stopped t τ) → (s ≡ t) × (σ ≡ τ)
stop_is e = (cc, cc)

pub ok≢err : {E A : Type 0} {a : A} {e : E} → Ok a ≡ Err e → ⊥
ok≢err {a} {e} h = no_ok e a (sym h)

pub moved : {A B : Type 0} (k : A → Step B) {a b : A} {σ τ : Memory} {u w : ℕ} {o : Out B} → ended a σ u ≡ ended b τ w → k a σ u o → k b τ w o
moved k {o} e h = subst (Fam k o) e h

bind_stop : {B : Memory → Type 0} {A C X Y : Type 0} {mem : A → X → Memory} {left : A → X → ℕ} {T : A → X → Type 0} {x : Result X Stop}
    {mem' : C → Y → Memory} {left' : C → Y → ℕ} {T' : C → Y → Type 0} (j : X → Result Y Stop) {o : Out C} {s : Stop} {τ : Memory}
    → o ≡ stopped s τ → Agree B mem left T (stopped s τ) x → Agree B mem' left' T' o (R.◌>>=◌ x j)
bind_stop j e (stops s' τ' e' ex ns b) = let p = stop_is e' in stops s' τ' (e ∙ cc (p.0, p.1)) (ap (λ x. R.◌>>=◌ x j) ex) ns b
bind_stop j e (ends a y e' ex t) = absurd (end≢stop (sym e'))

weaker_out : {B : Memory → Type 0} {A X : Type 0} {mem : A → X → Memory} {left : A → X → ℕ} {T T' : A → X → Type 0} {o : Out A} {x : Result X Stop}
    → ((a : A) (y : X) → T a y → T' a y) → Agree B mem left T o x → Agree B mem left T' o x
weaker_out f (stops s τ e ex ns b) = stops s τ e ex ns b
weaker_out f (ends a y e ex t) = ends a y e ex (f a y t)

module _ {limit : ℕ} {B : Memory → Type 0} where
  bind_end : {A C X Y : Type 0} (k : A → Step C) {mem : A → X → Memory} {left : A → X → ℕ} {T : A → X → Type 0} {x : Result X Stop}
      {mem' : C → Y → Memory} {left' : C → Y → ℕ} {T' : C → Y → Type 0} (j : X → Result Y Stop) {o : Out C} {a : A} {σ : Memory} {u : ℕ}
      → ((a : A) (y : X) → T a y → Sim limit B (k a) (mem a y) (left a y) mem' left' T' (j y))
      → k a σ u o → Agree B mem left T (ended a σ u) x → Agree B mem' left' T' o (R.◌>>=◌ x j)
  bind_end k j K h (stops s τ e ex ns b) = absurd (end≢stop e)
  bind_end k {mem'} {left'} {T'} j {o} K h (ends a y e ex t) =
      subst (λ x. Agree B mem' left' T' o (R.◌>>=◌ x j)) (sym ex) ((K a y t).run o (moved k e h))

  bind_goes : {A C X Y : Type 0} (m : Step A) (k : A → Step C) {σ : Memory} {u : ℕ} {mem : A → X → Memory} {left : A → X → ℕ} {T : A → X → Type 0} {x : Result X Stop}
      {mem' : C → Y → Memory} {left' : C → Y → ℕ} {T' : C → Y → Type 0} {j : X → Result Y Stop} → limit ≤ 65536
      → ((a : A) (y : X) → T a y → Sim limit B (k a) (mem a y) (left a y) mem' left' T' (j y))
      → (o : Out A) → m σ u o → Agree B mem left T o x → (o' : Out C) × M.◌>>=◌ m k σ u o'
  bind_goes m k top K (stopped s τ) h g = (stopped s τ, inl (s, τ, h, refl))
  bind_goes m k top K (ended a τ w) h (stops s ρ e ex ns b) = absurd (end≢stop e)
  bind_goes m k top K (ended a τ w) h (ends b y e ex t) = let (o, r) = (K b y t).goes top in (o, inr (a, τ, w, h, moved k (sym e) r))

  pub bind : {A C X Y : Type 0} (m : Step A) (k : A → Step C) {σ : Memory} {u : ℕ} {mem : A → X → Memory} {left : A → X → ℕ} {T : A → X → Type 0} {x : Result X Stop}
      {mem' : C → Y → Memory} {left' : C → Y → ℕ} {T' : C → Y → Type 0} (j : X → Result Y Stop)
      → Sim limit B m σ u mem left T x
      → ((a : A) (y : X) → T a y → Sim limit B (k a) (mem a y) (left a y) mem' left' T' (j y))
      → Sim limit B (M.◌>>=◌ m k) σ u mem' left' T' (R.◌>>=◌ x j)
  bind m k {σ} {u} j S K =
      record {
        run = λ o. elim [
          | inl h ↦ bind_stop j h.3 (S.run (stopped h.0 h.1) h.2)
          | inr h ↦ bind_end k j K h.4 (S.run (ended h.0 h.1 h.2) h.3)
        ];
        goes = λ top. let (o, h) = S.goes top in bind_goes m k top K o h (S.run o h);
      }

  pub gives : {A X : Type 0} (a : A) {σ : Memory} {u : ℕ} (mem : A → X → Memory) (left : A → X → ℕ) (T : A → X → Type 0) (y : X)
      → mem a y ≡ σ → left a y ≡ u → T a y → Sim limit B (give a) σ u mem left T (Ok y)
  gives a {σ} {u} mem left T y e f t = record { run = λ o h. ends a y (h ∙ (cc)) refl t; goes = λ _. (ended a σ u, refl) }

  pub halts : {A X : Type 0} (s : Stop) {σ : Memory} {u : ℕ} {mem : A → X → Memory} {left : A → X → ℕ} {T : A → X → Type 0}
      → (s ≡ Stuck → ⊥) → B σ → Sim {A = A} {X = X} limit B (stop s) σ u mem left T (Err s)
  halts s {σ} ns b = record { run = λ o h. stops s σ h refl ns b; goes = λ _. (stopped s σ, refl) }

  -- an operator's answer: a value of which P holds, or a stop that is not stuck
  pub answers : {A : Type 0} {σ : Memory} {u : ℕ} (P : A → Type 0) (r : Result A Stop) → (r ≡ Err Stuck → ⊥) → B σ → ((a : A) → r ≡ Ok a → P a)
      → Sim {A = A} {X = A} limit B (answered r) σ u (λ _ _. σ) (λ _ _. u) (λ a b. (a ≡ b) × P b) r
  answers {σ} {u} P (Ok a) ns b h = gives a (λ _ _. σ) (λ _ _. u) (λ a b. (a ≡ b) × P b) a refl refl (refl, h a refl)
  answers P (Err s) ns b h = halts s (λ e. ns (ap Err e)) b

  pub weaker : {A X : Type 0} {m : Step A} {σ : Memory} {u : ℕ} {mem : A → X → Memory} {left : A → X → ℕ} {T T' : A → X → Type 0} {x : Result X Stop}
      → ((a : A) (y : X) → T a y → T' a y) → Sim limit B m σ u mem left T x → Sim limit B m σ u mem left T' x
  weaker f S = record { run = λ o h. weaker_out f (S.run o h); goes = S.goes }

  no_unit : {C Y : Type 0} (i : ℕ) (k : Unit {0} → Step C) {σ : Memory} {mem : C → Y → Memory} {left : C → Y → ℕ} {T : C → Y → Type 0}
      (x : Result Y Stop) → B σ → x ≡ Err (UnitStop i) → Sim limit B (M.◌>>=◌ (tick i) k) σ zero mem left T x
  no_unit i k {σ} x b e =
      record {
        run = λ o. elim [
          | inl h ↦ (let p = stop_is h.2 in stops (UnitStop i) σ (h.3 ∙ cc (p.0, p.1)) e (λ e. unit≢stuck e) b)
          | inr h ↦ absurd (end≢stop h.3)
        ];
        goes = λ _. (stopped (UnitStop i) σ, inl (UnitStop i, σ, refl, refl));
      }

  pub begins_suc : {C Y : Type 0} (i : ℕ) (k : Unit {0} → Step C) {σ : Memory} {mem : C → Y → Memory} {left : C → Y → ℕ} {T : C → Y → Type 0}
      (f u : ℕ) (X : ℕ → Result Y Stop) → B σ → X zero ≡ Err (UnitStop i) → u ≤ suc f → ((w : ℕ) → w ≤ f → Sim limit B (k tt) σ w mem left T (X (suc w)))
      → Sim limit B (M.◌>>=◌ (tick i) k) σ u mem left T (X u)
  begins_suc i k f zero X b s le K = no_unit i k _ b s
  begins_suc i k {σ} f (suc w) X b s le K =
      let S = K w (omega arith) in
      record {
        run = λ o. elim [ inl h ↦ absurd (end≢stop (sym h.2)) | inr h ↦ S.run o (moved k h.3 h.4) ];
        goes = λ top. let (o, r) = S.goes top in (o, inr (tt, σ, w, refl, r));
      }

  pub begins_zero : {C Y : Type 0} (i : ℕ) (k : Unit {0} → Step C) {σ : Memory} {mem : C → Y → Memory} {left : C → Y → ℕ} {T : C → Y → Type 0}
      (u : ℕ) (x : Result Y Stop) → B σ → x ≡ Err (UnitStop i) → u ≤ zero → Sim limit B (M.◌>>=◌ (tick i) k) σ u mem left T x
  begins_zero i k zero x b s le = no_unit i k x b s
  begins_zero i k (suc u) x b s le = absurd (omega arith)

  -- a command begins: without a unit both stop, and with one both go on
  pub begins : {C Y : Type 0} (i : ℕ) (k : Unit {0} → Step C) {σ : Memory} {mem : C → Y → Memory} {left : C → Y → ℕ} {T : C → Y → Type 0}
      (fuel u : ℕ) (X : ℕ → ℕ → Result Y Stop) → B σ
      → ((w : ℕ) → X zero w ≡ Err (UnitStop i)) → ((f : ℕ) → X (suc f) zero ≡ Err (UnitStop i))
      → u ≤ fuel
      → ((f w : ℕ) → fuel ≡ suc f → w ≤ f → Sim limit B (k tt) σ w mem left T (X (suc f) (suc w)))
      → Sim limit B (M.◌>>=◌ (tick i) k) σ u mem left T (X fuel u)
  begins i k zero u X b z s le K = begins_zero i k u (X zero u) b (z u) le
  begins i k (suc f) u X b z s le K = begins_suc i k f u (X (suc f)) b (s f) le (λ w lw. K f w refl lw)

  -- and by itself
  pub ticks : {Y : Type 0} (i : ℕ) {σ : Memory} {mem : Unit {0} → Y → Memory} {left : Unit {0} → Y → ℕ} {T : Unit {0} → Y → Type 0}
      (fuel u : ℕ) (X : ℕ → ℕ → Result Y Stop) → B σ
      → ((w : ℕ) → X zero w ≡ Err (UnitStop i)) → ((f : ℕ) → X (suc f) zero ≡ Err (UnitStop i))
      → u ≤ fuel
      → ((f w : ℕ) → fuel ≡ suc f → w ≤ f → Agree B mem left T (ended tt σ w) (X (suc f) (suc w)))
      → Sim limit B (tick i) σ u mem left T (X fuel u)
  ticks i {σ} zero zero X b z s le K = record { run = λ o h. stops (UnitStop i) σ h (z 0) unit≢stuck b; goes = λ _. (stopped (UnitStop i) σ, refl) }
  ticks i zero (suc u) X b z s le K = absurd (omega arith)
  ticks i {σ} (suc f) zero X b z s le K = record { run = λ o h. stops (UnitStop i) σ h (s f) unit≢stuck b; goes = λ _. (stopped (UnitStop i) σ, refl) }
  ticks i {σ} {mem} {left} {T} (suc f) (suc w) X b z s le K =
      record { run = λ o h. subst (λ o. Agree B mem left T o (X (suc f) (suc w))) (sym h) (K f w refl (omega arith)); goes = λ _. (ended tt σ w, refl) }

-- a step and then the release of its locations, at its end and at its stop
module _ {limit : ℕ} {B B' : Memory → Type 0} {A X Y : Type 0} {mem : A → X → Memory} {left : A → X → ℕ} {T : A → X → Type 0}
    {mem' : A → Y → Memory} {left' : A → Y → ℕ} {T' : A → Y → Type 0} (ls : List ℕ) (j : X → Result Y Stop)
    (at_end : (a : A) (y : X) → T a y → Sim {A = A} {X = Y} limit B' (M.◌>>=◌ (release_all ls) (λ _. give a)) (mem a y) (left a y) mem' left' T' (j y))
    (at_stop : (s : Stop) (τ : Memory) → (s ≡ Stuck → ⊥) → B τ → Sim {A = A} {X = Y} limit B' (M.◌>>=◌ (release_all ls) (λ _. stop s)) τ 0 mem' left' T' (Err s)) where
  stop_released : {x : Result X Stop} {o : Out A} {s : Stop} {τ : Memory} → M.◌>>=◌ (release_all ls) (λ _. stop s) τ 0 o
      → Agree {A = A} {X = X} B mem left T (stopped s τ) x → Agree {A = A} {X = Y} B' mem' left' T' o (R.◌>>=◌ x j)
  stop_released {o} {s} {τ} h (stops s' τ' e ex ns b) =
      let p = stop_is e in
      let q = (at_stop s τ (λ z. ns (sym p.0 ∙ z)) (subst B (sym p.1) b)).run o h in
      subst (Agree {A = A} {X = Y} B' mem' left' T' o) (sym (ap (λ x. R.◌>>=◌ x j) ex ∙ ap Err (sym p.0))) q
  stop_released h (ends a y e ex t) = absurd (end≢stop (sym e))

  end_released : {x : Result X Stop} {o : Out A} {a : A} {τ : Memory} {w : ℕ} → M.◌>>=◌ (release_all ls) (λ _. give a) τ w o
      → Agree {A = A} {X = X} B mem left T (ended a τ w) x → Agree {A = A} {X = Y} B' mem' left' T' o (R.◌>>=◌ x j)
  end_released h (stops s τ e ex ns b) = absurd (end≢stop e)
  end_released {o} h (ends a y e ex t) =
      subst (λ x. Agree B' mem' left' T' o (R.◌>>=◌ x j)) (sym ex) ((at_end a y t).run o (moved (λ a. M.◌>>=◌ (release_all ls) (λ _. give a)) e h))

  released_goes : {x : Result X Stop} (m : Step A) {σ : Memory} {u : ℕ} → limit ≤ 65536 → (o : Out A) → m σ u o → Agree {A = A} {X = X} B mem left T o x
      → (o' : Out A) × (m releasing ls) σ u o'
  released_goes m top (stopped s τ) h (stops s' τ' e ex ns b) =
      let p = stop_is e in
      let (o, r) = (at_stop s τ (λ z. ns (sym p.0 ∙ z)) (subst B (sym p.1) b)).goes top in
      (o, inl (s, τ, h, r))
  released_goes m top (stopped s τ) h (ends a y e ex t) = absurd (end≢stop (sym e))
  released_goes m top (ended a τ w) h (stops s τ' e ex ns b) = absurd (end≢stop e)
  released_goes m top (ended a τ w) h (ends b y e ex t) =
      let (o, r) = (at_end b y t).goes top in
      (o, inr (a, τ, w, h, moved (λ a. M.◌>>=◌ (release_all ls) (λ _. give a)) (sym e) r))

  pub releases : {x : Result X Stop} (m : Step A) {σ : Memory} {u : ℕ} → Sim limit B m σ u mem left T x
      → Sim limit B' (m releasing ls) σ u mem' left' T' (R.◌>>=◌ x j)
  releases m S =
      record {
        run = λ o. elim [
          | inl h ↦ stop_released h.3 (S.run (stopped h.0 h.1) h.2)
          | inr h ↦ end_released h.4 (S.run (ended h.0 h.1 h.2) h.3)
        ];
        goes = λ top. let (o, h) = S.goes top in released_goes m top o h (S.run o h);
      }
