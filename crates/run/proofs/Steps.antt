-- Laws of the steps that a run is made of.
use Rattle.std.proofs.Common.{◌≡◌, ℕ, List, [], ◌∷◌, ◌++◌, length, Ok, Err, Result, sym, refl, subst, inl, inr, arith}
use Rattle.language.specs.declared.values.Stop.{Stop}
use Rattle.language.specs.Memory.{Memory}
use Rattle.language.specs.Results as R
use Rattle.language.specs.Values.{initial_value}
use Rattle.language.specs.Tree.{Decl}
use Rattle.language.specs.Sight.{place, placed}
use Rattle.language.specs.Runs.{Env, Out, ended, stopped, Step, give, answered, ◌>>=◌, ◌releasing◌, take_one, take_all, release, release_all}
use Rattle.run.specs.Machine.{outcome}

abbrev AtEnd : {A : Type 0} → (A → Memory → ℕ → Type 0) → Out A → Type 0
AtEnd P (ended a σ u) = P a σ u
AtEnd P (stopped s σ) = ⊥

pub at_end : {A : Type 0} (P : A → Memory → ℕ → Type 0) (a b : A) (σ σ' : Memory) (u u' : ℕ) → ended a σ u ≡ ended b σ' u' → P b σ' u' → P a σ u
at_end P a b σ σ' u u' e h = subst (AtEnd P) (sym e) h

pub never : {A : Type 0} (a : A) (σ τ : Memory) (u : ℕ) (s : Stop) → ended a σ u ≡ stopped s τ → ⊥
never a σ τ u s e = subst (AtEnd (λ a σ u. Unit {0})) e tt

abbrev AtStop : {A : Type 0} → (Stop → Memory → Type 0) → Out A → Type 0
AtStop P (ended a σ u) = ⊥
AtStop P (stopped s σ) = P s σ

pub at_stop : {A : Type 0} (P : Stop → Memory → Type 0) (s s' : Stop) (τ τ' : Memory) → ◌≡◌ {A = Out A} (stopped s τ) (stopped s' τ') → P s' τ' → P s τ
at_stop P s s' τ τ' e h = subst (AtStop P) (sym e) h

-- nothing before a step
pub give_first : {A B : Type 0} (a : A) (k : A → Step B) (σ : Memory) (u : ℕ) (o : Out B) → (give a >>= k) σ u o → k a σ u o
give_first a k σ u o (inl (s, τ, x, e)) = absurd (never a σ τ u s (sym x))
give_first a k σ u o (inr (b, τ, v, x, y)) = at_end (λ c ρ w. k c ρ w o) a b σ τ u v (sym x) y

pub first_give : {A B : Type 0} (a : A) (k : A → Step B) (σ : Memory) (u : ℕ) (o : Out B) → k a σ u o → (give a >>= k) σ u o
first_give a k σ u o h = inr (a, σ, u, refl, h)

-- three steps, grouped in the two ways
pub group : {A B C : Type 0} (m : Step A) (f : A → Step B) (k : B → Step C) (σ : Memory) (u : ℕ) (o : Out C)
    → (m >>= f >>= k) σ u o → (m >>= λ a. f a >>= k) σ u o
group m f k σ u o (inl (s, τ, inl (s', τ', x, e), q)) = inl (s, τ, at_stop (λ z ρ. m σ u (stopped z ρ)) s s' τ τ' e x, q)
group m f k σ u o (inl (s, τ, inr (a, τ', v, x, y), q)) = inr (a, τ', v, x, inl (s, τ, y, q))
group m f k σ u o (inr (b, τ, v, inl (s, τ', x, e), z)) = absurd (never b τ τ' v s e)
group m f k σ u o (inr (b, τ, v, inr (a, τ', w, x, y), z)) = inr (a, τ', w, x, inr (b, τ, v, y, z))

-- what stands before a step may be replaced by what comes to no less
pub lift : {A B : Type 0} (m m' : Step A) (k : A → Step B) (σ σ' : Memory) (u u' : ℕ) (o : Out B) → ((x : Out A) → m' σ' u' x → m σ u x)
    → (m' >>= k) σ' u' o → (m >>= k) σ u o
lift m m' k σ σ' u u' o h (inl (s, τ, x, e)) = inl (s, τ, h (stopped s τ) x, e)
lift m m' k σ σ' u u' o h (inr (a, τ, v, x, y)) = inr (a, τ, v, h (ended a τ v) x, y)

pub lift_releasing : {A : Type 0} (m m' : Step A) (ls : List ℕ) (σ σ' : Memory) (u u' : ℕ) (o : Out A) → ((x : Out A) → m' σ' u' x → m σ u x)
    → (m' releasing ls) σ' u' o → (m releasing ls) σ u o
lift_releasing m m' ls σ σ' u u' o h (inl (s, τ, x, e)) = inl (s, τ, h (stopped s τ) x, e)
lift_releasing m m' ls σ σ' u u' o h (inr (a, τ, v, x, y)) = inr (a, τ, v, h (ended a τ v) x, y)

-- a result that changes nothing
pub answered_is : {A : Type 0} (r : Result A Stop) (σ : Memory) (u : ℕ) → answered r σ u (outcome r σ u)
answered_is (Ok a) σ u = refl
answered_is (Err s) σ u = refl

pub bind_outcome : {A B : Type 0} (m : Step A) (r : Result A Stop) (k : A → Step B) (f : A → Result B Stop) (σ : Memory) (u : ℕ)
    → m σ u (outcome r σ u) → ((a : A) → k a σ u (outcome (f a) σ u)) → (m >>= k) σ u (outcome (R.◌>>=◌ r f) σ u)
bind_outcome m (Ok a) k f σ u h g = inr (a, σ, u, h, g a)
bind_outcome m (Err s) k f σ u h g = inl (s, σ, h, refl)

bind_give : {A B : Type 0} (m : Step A) (f : A → B) (σ : Memory) (u : ℕ) (b : B) (σ₁ : Memory) (u₁ : ℕ)
    → (m >>= λ a. give (f a)) σ u (ended b σ₁ u₁) → (a : A) × m σ u (ended a σ₁ u₁) × (b ≡ f a)
bind_give m f σ u b σ₁ u₁ (inl (s, τ, x, e)) = absurd (never b σ₁ τ u₁ s e)
bind_give {A} m f σ u b σ₁ u₁ (inr (a, σ', u', x, e)) =
    at_end (λ c τ v. (a : A) × m σ u (ended a τ v) × (c ≡ f a)) b (f a) σ₁ σ' u₁ u' e (a, x, refl)

-- one location more
pub take_snoc : (L : ℕ) (ds : List Decl) (d : Decl) (σ : Memory) (u : ℕ) (ls : List ℕ) (σ₁ : Memory) (u₁ : ℕ) (l : ℕ) (σ₂ : Memory) (u₂ : ℕ)
    → take_all L ds σ u (ended ls σ₁ u₁) → take_one L (initial_value d.type) σ₁ u₁ (ended l σ₂ u₂)
    → take_all L (ds ++ d ∷ []) σ u (ended (ls ++ l ∷ []) σ₂ u₂)
take_snoc L [] d σ u ls σ₁ u₁ l σ₂ u₂ e h =
    at_end (λ ks τ v. take_one L (initial_value d.type) τ v (ended l σ₂ u₂) → take_all L (d ∷ []) σ u (ended (ks ++ l ∷ []) σ₂ u₂)) ls [] σ₁ σ u₁ u e
    (λ x. inr (l, σ₂, u₂, x, inr ([], σ₂, u₂, refl, refl))) h
take_snoc L (d₀ ∷ ds) d σ u ls σ₁ u₁ l σ₂ u₂ (inl (s, τ, x, e)) h = absurd (never ls σ₁ τ u₁ s e)
take_snoc L (d₀ ∷ ds) d σ u ls σ₁ u₁ l σ₂ u₂ (inr (l₀, σ', u', x, k)) h =
    let g = bind_give (take_all L ds) (λ ks. l₀ ∷ ks) σ' u' ls σ₁ u₁ k in
    let rest : take_all L (ds ++ d ∷ []) σ' u' (ended (g.0 ++ l ∷ []) σ₂ u₂) = take_snoc L ds d σ' u' g.0 σ₁ u₁ l σ₂ u₂ g.1 h in
    rw g.2 (inr (l₀, σ', u', x, inr (g.0 ++ l ∷ [], σ₂, u₂, rest, refl)))

pub take_snoc_stop : (L : ℕ) (ds : List Decl) (d : Decl) (σ : Memory) (u : ℕ) (ls : List ℕ) (σ₁ : Memory) (u₁ : ℕ) (s : Stop) (σ₂ : Memory)
    → take_all L ds σ u (ended ls σ₁ u₁) → take_one L (initial_value d.type) σ₁ u₁ (stopped s σ₂) → take_all L (ds ++ d ∷ []) σ u (stopped s σ₂)
take_snoc_stop L [] d σ u ls σ₁ u₁ s σ₂ e h =
    at_end (λ ks τ v. take_one L (initial_value d.type) τ v (stopped s σ₂) → take_all L (d ∷ []) σ u (stopped s σ₂)) ls [] σ₁ σ u₁ u e
    (λ x. inl (s, σ₂, x, refl)) h
take_snoc_stop L (d₀ ∷ ds) d σ u ls σ₁ u₁ s σ₂ (inl (s', τ, x, e)) h = absurd (never ls σ₁ τ u₁ s' e)
take_snoc_stop L (d₀ ∷ ds) d σ u ls σ₁ u₁ s σ₂ (inr (l₀, σ', u', x, k)) h =
    let g = bind_give (take_all L ds) (λ ks. l₀ ∷ ks) σ' u' ls σ₁ u₁ k in
    inr (l₀, σ', u', x, inl (s, σ₂, take_snoc_stop L ds d σ' u' g.0 σ₁ u₁ s σ₂ g.1 h, refl))

pub take_stop_more : (L : ℕ) (ds es : List Decl) (σ : Memory) (u : ℕ) (s : Stop) (τ : Memory) → take_all L ds σ u (stopped s τ) → take_all L (ds ++ es) σ u (stopped s τ)
take_stop_more L [] es σ u s τ e = absurd (never [] σ τ u s (sym e))
take_stop_more L (d ∷ ds) es σ u s τ (inl x) = inl x
take_stop_more L (d ∷ ds) es σ u s τ (inr (l, σ', u', x, inl (s', τ', y, e))) = inr (l, σ', u', x, inl (s', τ', take_stop_more L ds es σ' u' s' τ' y, e))
take_stop_more L (d ∷ ds) es σ u s τ (inr (l, σ', u', x, inr (ls, σ'', u'', y, e))) = absurd (never (l ∷ ls) σ'' τ u'' s (sym e))

pub placed_snoc : (ds : List Decl) (ls : List ℕ) (d : Decl) (l : ℕ) (ρ : Env) → length ds ≡ length ls
    → placed (ds ++ d ∷ []) (ls ++ l ∷ []) ρ ≡ (d.name, place l) ∷ placed ds ls ρ
placed_snoc [] [] d l ρ e = refl
placed_snoc [] (k ∷ ls) d l ρ e = absurd (omega arith)
placed_snoc (c ∷ ds) [] d l ρ e = absurd (omega arith)
placed_snoc (c ∷ ds) (k ∷ ls) d l ρ e = placed_snoc ds ls d l ((c.name, place k) ∷ ρ) (omega arith)

-- one release more
pub release_snoc : (ls : List ℕ) (l : ℕ) (σ : Memory) (u : ℕ) (σ₁ : Memory) (u₁ : ℕ) (o : Out (Unit {0}))
    → release_all ls σ u (ended tt σ₁ u₁) → release l σ₁ u₁ o → release_all (ls ++ l ∷ []) σ u o
release_snoc [] l σ u σ₁ u₁ o e h =
    at_end (λ _ τ v. release l τ v o → release_all (l ∷ []) σ u o) tt tt σ₁ σ u₁ u e (last o) h
  where
    last : (o : Out (Unit {0})) → release l σ u o → release_all (l ∷ []) σ u o
    last (ended x τ v) r = inr (x, τ, v, r, refl)
    last (stopped s τ) r = inl (s, τ, r, refl)
release_snoc (k ∷ ls) l σ u σ₁ u₁ o (inl (s, τ, x, e)) h = absurd (never tt σ₁ τ u₁ s e)
release_snoc (k ∷ ls) l σ u σ₁ u₁ o (inr (a, σ', u', x, y)) h = inr (a, σ', u', x, release_snoc ls l σ' u' σ₁ u₁ o y h)

pub release_stop_more : (ls ks : List ℕ) (σ : Memory) (u : ℕ) (s : Stop) (τ : Memory) → release_all ls σ u (stopped s τ) → release_all (ls ++ ks) σ u (stopped s τ)
release_stop_more [] ks σ u s τ e = absurd (never tt σ τ u s (sym e))
release_stop_more (l ∷ ls) ks σ u s τ (inl x) = inl x
release_stop_more (l ∷ ls) ks σ u s τ (inr (a, σ', u', x, y)) = inr (a, σ', u', x, release_stop_more ls ks σ' u' s τ y)
