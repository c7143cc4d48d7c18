-- Being the same name: of itself, both ways, and through a third. Nothing else is used of it.
use Rattle.std.proofs.Common.{◌≡◌, ℕ, true, false, ◌||◌, ◌⊎◌, List, [], ◌∷◌, sym, refl, ap, ◌∙◌, ap₂, inl, inr}
use Rattle.std.proofs.lemmas.Bool.{eq-eqb, eqb-true, eqb-false, ne_eqb, cases_Bool}
use Rattle.language.specs.Same.{same}
use Rattle.language.specs.Sight.{member}

pub same_self : (a : ℕ) → same a a ≡ true
same_self a = eq-eqb a a refl

pub same_swap : (a b : ℕ) → same a b ≡ same b a
same_swap a b = go (cases_Bool (same a b))
  where
    go : (same a b ≡ true) ⊎ (same a b ≡ false) → same a b ≡ same b a
    go (inl h) = h ∙ sym (eq-eqb b a (sym (eqb-true a b h)))
    go (inr h) = h ∙ sym (ne_eqb b a (λ e. eqb-false a b h (sym e)))

pub same_through : (a b c : ℕ) → same a b ≡ true → same a c ≡ same b c
same_through a b c h = ap (λ x. same x c) (eqb-true a b h)

pub member_through : (a b : ℕ) (ms : List ℕ) → same a b ≡ true → member a ms ≡ member b ms
member_through a b [] h = refl
member_through a b (m ∷ ms) h = ap₂ ◌||◌ (same_through a b m h) (member_through a b ms h)
