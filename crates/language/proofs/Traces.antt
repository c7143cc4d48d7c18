-- What a trace costs.
use Rattle.std.proofs.Common.{◌≡◌, ℕ, zero, suc, ◌+◌, ◌<◌, Bool, true, false, cond, [], ◌∷◌, ◌++◌, get_or, Ok, Err, refl, ap, arith}
use Rattle.language.specs.declared.values.Stop.TheVariants.{Sum, Unit as UnitStop}
use Rattle.language.specs.Values.{fits}
use Rattle.language.specs.Results.{◌>>=◌}
use Rattle.language.specs.Meaning.{begins, adds, Trace}
use Rattle.language.specs.Laws.{commands, units, AllFit, spend}
use Rattle.language.proofs.Binds.{no_ok, ok_is}

pub spend_append : (s r : Trace) (u : ℕ) → spend (s ++ r) u ≡ (spend s u >>= λ w. spend r w)
spend_append [] r u = refl
spend_append (begins i ∷ s) r zero = refl
spend_append (begins i ∷ s) r (suc u) = spend_append s r u
spend_append (adds i z ∷ s) r u = go (fits z) (spend_append s r u)
  where
    go : (b : Bool) → spend (s ++ r) u ≡ (spend s u >>= λ w. spend r w) → cond b (spend (s ++ r) u) (Err (Sum i)) ≡ (cond b (spend s u) (Err (Sum i)) >>= λ w. spend r w)
    go true ih = ih
    go false ih = refl

pub paid : (t : Trace) (u w : ℕ) → spend t u ≡ Ok w → (u ≡ units t + w) × AllFit t
paid [] u w h = let e = ok_is h in (omega arith, tt)
paid (begins i ∷ t) zero w h = absurd (no_ok _ w h)
paid (begins i ∷ t) (suc u) w h = let (p, f) = paid t u w h in (omega arith, f)
paid (adds i z ∷ t) u w h = go (fits z) refl (paid t u w) h
  where
    go : (b : Bool) → fits z ≡ b → (spend t u ≡ Ok w → (u ≡ units t + w) × AllFit t) → cond b (spend t u) (Err (Sum i)) ≡ Ok w
        → (u ≡ units t + w) × ((fits z ≡ true) × AllFit t)
    go true e ih h = let (p, f) = ih h in (p, (e, f))
    go false e ih h = absurd (no_ok _ w h)

pub pays : (t : Trace) (u w : ℕ) → AllFit t → u ≡ units t + w → spend t u ≡ Ok w
pays [] u w f e = ap Ok (omega arith)
pays (begins i ∷ t) zero w f e = absurd (omega arith)
pays (begins i ∷ t) (suc u) w f e = pays t u w f (omega arith)
pays (adds i z ∷ t) u w f e = rw f.0 (pays t u w f.1 e)

pub falls_short : (t : Trace) (u : ℕ) → AllFit t → u < units t → spend t u ≡ Err (UnitStop (get_or (commands t) u 0))
falls_short [] u f l = absurd (omega arith)
falls_short (begins i ∷ t) zero f l = refl
falls_short (begins i ∷ t) (suc u) f l = falls_short t u f (omega arith)
falls_short (adds i z ∷ t) u f l = rw f.0 (falls_short t u f.1 l)
