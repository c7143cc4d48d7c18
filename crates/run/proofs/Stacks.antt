-- Frames and values on the levels of a stack.
use Rattle.std.proofs.Common.{◌≡◌, ℕ, zero, suc, ◌+◌, ◌-◌, ◌<◌, ◌≤◌, ◌≢◌, List, [], ◌∷◌, length, set, Some, Err, Result, sym, refl, ap, ◌∙◌, ap₂, add-one, arith, get_or-set_other, get_or-set_same}
use Rattle.language.specs.declared.tables.Node.{Node}
use Rattle.language.specs.declared.tables.Kind.{Kind}
use Rattle.language.specs.declared.tables.Kind.TheVariants.{Truth, Whole, Read, Plus, Less, Or, Null, Assign, If, While, Call, Argument, Decl, Proc, Block}
use Rattle.language.specs.Memory.{Memory}
use Rattle.language.specs.declared.values.Value.{Value}
use Rattle.language.specs.declared.values.Stop.{Stop}
use Rattle.language.specs.declared.values.Stop.TheVariants.{Stuck}
use Rattle.run.specs.declared.levels.Frame.{Frame}
use Rattle.run.specs.declared.levels.Level.{Level}
use Rattle.run.specs.Levels.{newest_first, frames, values, level_at, no_level}
use Rattle.run.specs.Evaluation.{Locator, operated, operator_value, node_done}

pub newest_same : {A : Type 0} (f g : ℕ → A) (n : ℕ) → ((k : ℕ) → k < n → f k ≡ g k) → newest_first f n ≡ newest_first g n
unfolding newest_first
newest_same f g zero h = refl
newest_same f g (suc n) h = ap₂ ◌∷◌ (h n (omega arith)) (newest_same f g n (λ k lt. h k (omega arith)))

newest_one : {A : Type 0} (f : ℕ → A) (n : ℕ) → newest_first f (n + 1) ≡ f n ∷ newest_first f n
unfolding newest_first
newest_one f n = rw add-one refl

newest_top : {A : Type 0} (f : ℕ → A) (n : ℕ) → 0 < n → newest_first f n ≡ f (n - 1) ∷ newest_first f (n - 1)
newest_top f n h = let e : n - 1 + 1 ≡ n = omega arith in rw e at (newest_one f (n - 1))

pub newest_length : {A : Type 0} (f : ℕ → A) (n : ℕ) → length (newest_first f n) ≡ n
unfolding newest_first
newest_length f zero = refl
newest_length f (suc n) = ap suc (newest_length f n)

pub newest_none : {A : Type 0} (f : ℕ → A) (n : ℕ) → n ≤ 0 → newest_first f n ≡ []
unfolding newest_first
newest_none f zero h = refl
newest_none f (suc n) h = absurd (omega arith)

-- a write at or above the frames leaves them
pub frames_above : (vs : List Level) (d k : ℕ) (x : Level) → d ≤ k → frames (set vs k x) d ≡ frames vs d
frames_above vs d k x h =
    newest_same _ _ d (λ j lt. let ne : j ≢ k = omega arith in ap (λ (y : Level). y.frame) (get_or-set_other vs k j x no_level ne))

pub frames_push : (vs : List Level) (d : ℕ) (x : Level) → d < length vs → frames (set vs d x) (d + 1) ≡ x.frame ∷ frames vs d
frames_push vs d x h =
    newest_one _ d ∙ ap₂ ◌∷◌ (ap (λ (y : Level). y.frame) (get_or-set_same vs d x no_level h)) (frames_above vs d d x (omega arith))

pub frames_top : (vs : List Level) (d : ℕ) → 0 < d → frames vs d ≡ (level_at vs (d - 1)).frame ∷ frames vs (d - 1)
frames_top vs d h = newest_top _ d h

abbrev below_top : List Frame → List Frame
below_top [] = []
below_top (f ∷ fs) = fs

-- levels that have the same frames have the same frames below the newest
pub frames_below : (vs vs' : List Level) (d : ℕ) → 0 < d → frames vs' d ≡ frames vs d → frames vs' (d - 1) ≡ frames vs (d - 1)
frames_below vs vs' d h e = ap below_top (sym (frames_top vs' d h) ∙ e ∙ frames_top vs d h)

pub values_push : (vs : List Level) (d h : ℕ) (x : Level) → d + h < length vs → values (set vs (d + h) x) d (h + 1) ≡ x.value ∷ values vs d h
values_push vs d h x lt =
    newest_one _ h
    ∙ ap₂ ◌∷◌ (ap (λ (y : Level). y.value) (get_or-set_same vs (d + h) x no_level lt))
    (newest_same _ _ h (λ j jl. let ne : d + j ≢ d + h = omega arith in ap (λ (y : Level). y.value) (get_or-set_other vs (d + h) (d + j) x no_level ne)))

pub values_top : (vs : List Level) (d h : ℕ) → 0 < h → values vs d h ≡ (level_at vs (d + (h - 1))).value ∷ values vs d (h - 1)
values_top vs d h lt = newest_top _ h lt

-- an operator with fewer than two values
pub operated_few : (f : Value → Value → Result Value Stop) (vs : List Level) (d h : ℕ) → h < 2 → operated f (values vs d h) ≡ Err Stuck
unfolding newest_first
operated_few f vs d zero l = refl
operated_few f vs d (suc zero) l = refl
operated_few f vs d (suc (suc h)) l = absurd (omega arith)

-- a node that is no operator makes nothing of values
stuck : (vs : List Value) → Err Stuck ≡ operated (λ v w. Err Stuck) vs
stuck [] = refl
stuck (w ∷ []) = refl
stuck (w ∷ v ∷ vs) = refl

-- a node that takes no value as it stands is worked out as an operator
pub as_operator : (ρ : Locator) (σ : Memory) (k : Kind) (i : ℕ) (n : Node) (vs : List Value) → (k ≡ Truth → ⊥) → (k ≡ Whole → ⊥) → (k ≡ Read → ⊥)
    → node_done ρ σ (Some k) i n vs ≡ operated (operator_value k i) vs
as_operator ρ σ Truth i n vs t w r = absurd (t refl)
as_operator ρ σ Whole i n vs t w r = absurd (w refl)
as_operator ρ σ Read i n vs t w r = absurd (r refl)
as_operator ρ σ Plus i n vs t w r = refl
as_operator ρ σ Less i n vs t w r = refl
as_operator ρ σ Or i n vs t w r = refl
as_operator ρ σ Null i n vs t w r = stuck vs
as_operator ρ σ Assign i n vs t w r = stuck vs
as_operator ρ σ If i n vs t w r = stuck vs
as_operator ρ σ While i n vs t w r = stuck vs
as_operator ρ σ Call i n vs t w r = stuck vs
as_operator ρ σ Argument i n vs t w r = stuck vs
as_operator ρ σ Decl i n vs t w r = stuck vs
as_operator ρ σ Proc i n vs t w r = stuck vs
as_operator ρ σ Block i n vs t w r = stuck vs
