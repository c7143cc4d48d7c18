-- Assignments, conditionals and loops, from what the calls say.
use Rattle.std.proofs.Common.{◌≡◌, ℕ, ◌≤◌, max, List, length, Ok, Err, Result, sym, refl, ap, ◌∙◌, arith}
use Rattle.language.specs.declared.tables.Node.{Node}
use Rattle.language.specs.declared.values.Scalar.{Scalar}
use Rattle.language.specs.declared.values.Scalar.TheVariants.{Truth as truths}
use Rattle.language.specs.declared.faults.Fault.{Fault}
use Rattle.language.specs.declared.faults.NamesCause.TheVariants.{Types}
use Rattle.language.specs.Tree.{Expr, Com, assign, call}
use Rattle.language.specs.Results.{◌>>=◌, asked}
use Rattle.language.specs.Values.{alike}
use Rattle.language.specs.Names.{refusal, check_expr, check_com}
use Rattle.rule.specs.declared.checker.Checker.{Checker}
use Rattle.rule.specs.declared.parts.Part.{Part}
use Rattle.rule.specs.Pieces.{long, placed, Lies, IsExpr}
use Rattle.rule.specs.Rows.{args_from}
use Rattle.rule.specs.Shapes.{Assigns, Branches, Loops, Calls}
use Rattle.rule.specs.Seen.{Names, Sees}
use Rattle.rule.specs.Said.{ComSays}

abbrev pub ExprSays : Part → Checker → Result Scalar Fault → Type 0
ExprSays t k r = (x : Expr) (ρ : Names) → IsExpr t x → Sees k ρ → r ≡ check_expr ρ x

module _ {p t y n : Part} {c : Com} (w : Branches p t y n c) (k : Checker) (ρ : Names) (lk : Sees k ρ) where
  pub if_test_bad : (f : Fault) → ExprSays t k (Err f) → Err f ≡ check_com ρ c
  if_test_bad f h = sym (ap (check_com ρ) w.is ∙ rw (sym (h w.e ρ w.test lk)) refl)

  module _ (u : Scalar) (tested : ExprSays t k (Ok u)) where
    pub if_yes_bad : (f : Fault) → ComSays k y (Err f) → Err f ≡ check_com ρ c
    if_yes_bad f h = sym (ap (check_com ρ) w.is ∙ rw (sym (tested w.e ρ w.test lk), sym (h w.x ρ w.yes lk)) refl)

    module _ (a : ℕ) (l : Checker) (yes : ComSays k y (Ok a)) (lm : Sees l ρ) where
      pub if_no_bad : (f : Fault) → ComSays l n (Err f) → Err f ≡ check_com ρ c
      if_no_bad f h =
          sym (ap (check_com ρ) w.is ∙ rw (sym (tested w.e ρ w.test lk), sym (yes w.x ρ w.yes lk), sym (h w.z ρ w.no lm)) refl)

      module _ (b i : ℕ) (no : ComSays l n (Ok b)) (place : i ≡ placed p) where
        all : check_com ρ c ≡ (asked (alike u truths) (refusal Types i) >>= λ _. Ok (max a b))
        all =
            ap (check_com ρ) w.is
            ∙ rw (sym (tested w.e ρ w.test lk), sym (yes w.x ρ w.yes lk), sym (no w.z ρ w.no lm)) (ap (λ (i : ℕ). asked (alike u truths) (refusal Types i) >>= λ _. Ok (max a b)) (sym place))

        pub if_types_bad : (f : Fault) → Err f ≡ asked (alike u truths) (refusal Types i) → Err f ≡ check_com ρ c
        if_types_bad f h = sym (all ∙ ap (λ (o : Result (Unit {0}) Fault). o >>= λ _. Ok (max a b)) (sym h))

        pub if_well : (m : ℕ) → Ok tt ≡ asked (alike u truths) (refusal Types i) → m ≡ max a b → Ok m ≡ check_com ρ c
        if_well m h e = ap Ok e ∙ sym (all ∙ ap (λ (o : Result (Unit {0}) Fault). o >>= λ _. Ok (max a b)) (sym h))

module _ {p t b : Part} {c : Com} (w : Loops p t b c) (k : Checker) (ρ : Names) (lk : Sees k ρ) where
  pub while_test_bad : (f : Fault) → ExprSays t k (Err f) → Err f ≡ check_com ρ c
  while_test_bad f h = sym (ap (check_com ρ) w.is ∙ rw (sym (h w.e ρ w.test lk)) refl)

  module _ (u : Scalar) (tested : ExprSays t k (Ok u)) where
    pub while_body_bad : (f : Fault) → ComSays k b (Err f) → Err f ≡ check_com ρ c
    while_body_bad f h = sym (ap (check_com ρ) w.is ∙ rw (sym (tested w.e ρ w.test lk), sym (h w.x ρ w.body lk)) refl)

    module _ (a i : ℕ) (body : ComSays k b (Ok a)) (place : i ≡ placed p) where
      round : check_com ρ c ≡ (asked (alike u truths) (refusal Types i) >>= λ _. Ok a)
      round =
          ap (check_com ρ) w.is
          ∙ rw (sym (tested w.e ρ w.test lk), sym (body w.x ρ w.body lk)) (ap (λ (i : ℕ). asked (alike u truths) (refusal Types i) >>= λ _. Ok a) (sym place))

      pub while_types_bad : (f : Fault) → Err f ≡ asked (alike u truths) (refusal Types i) → Err f ≡ check_com ρ c
      while_types_bad f h = sym (round ∙ ap (λ (o : Result (Unit {0}) Fault). o >>= λ _. Ok a) (sym h))

      pub while_well : Ok tt ≡ asked (alike u truths) (refusal Types i) → Ok a ≡ check_com ρ c
      while_well h = sym (round ∙ ap (λ (o : Result (Unit {0}) Fault). o >>= λ _. Ok a) (sym h))

pub assign_is : {p v : Part} {m : ℕ} {c : Com} (w : Assigns p m v c) (ρ : Names) (i : ℕ) (o : Result ℕ Fault) → i ≡ placed p → o ≡ check_com ρ (assign i m w.e) → o ≡ check_com ρ c
assign_is {m} w ρ i o e h = h ∙ ap (λ (i : ℕ). check_com ρ (assign i m w.e)) e ∙ ap (check_com ρ) (sym w.is)

pub call_is : {p a : Part} {m : ℕ} {c : Com} (w : Calls p m a c) (ρ : Names) (i : ℕ) (o : Result ℕ Fault) → i ≡ placed p → o ≡ check_com ρ (call i m (args_from a.first a.nodes.now)) → o ≡ check_com ρ c
call_is {p} {a} {m} w ρ i o e h = h ∙ ap (λ (i : ℕ). check_com ρ (call i m (args_from a.first a.nodes.now))) e ∙ ap (check_com ρ) (sym w.is)

pub call_within : {table : List Node} {p a : Part} {m : ℕ} {c : Com} → Calls p m a c → Lies table p → long a ≤ length table
call_within w l = omega (arith, w.sizes, l.within)
