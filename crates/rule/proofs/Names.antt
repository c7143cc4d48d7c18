-- The names of procedures in a row, one more at the end.
use Rattle.std.proofs.Common.{◌≡◌, ℕ, Bool, true, false, ◌||◌, [], ◌∷◌, sym, ap, ◌∙◌, arith}
use Rattle.language.specs.declared.tables.Node.{Node}
use Rattle.language.specs.Same.{same}
use Rattle.language.specs.Sight.{member}
use Rattle.language.specs.Tree.{Procs}
use Rattle.language.specs.Spelling.{how_many_procs}
use Rattle.language.specs.Names.{proc_names}
use Rattle.rule.specs.declared.checker.Checker.{Checker}
use Rattle.rule.specs.declared.entries.Entry.TheVariants.{Hidden}
use Rattle.rule.specs.declared.parts.Part.{Part}
use Rattle.rule.specs.Pieces.{last_node, IsProcs}
use Rattle.rule.specs.Seen.{Grown}
use Rattle.rule.specs.Said.{Entries, hidden, seen_after}
use Rattle.rule.proofs.Grows.{grown_then, grown_as}
use Rattle.rule.proofs.Splits.{ProcsParts}

module _ {p l r : Part} {ps : Procs} (w : ProcsParts p l r ps) where
  name_is : (x : ℕ) (n : Node) (b : Bool) → n ≡ last_node r → b ≡ same x n.name → same x w.m ≡ b
  name_is x n b e h = sym (h ∙ ap (λ (n : Node). same x n.name) e ∙ ap (same x) w.name)

  pub named_here : (x : ℕ) (n : Node) (b : Bool) → n ≡ last_node r → b ≡ same x n.name → b ≡ true → b ≡ member x (seen_after ps [])
  named_here x n b e h t = t ∙ sym (w.names x ∙ ap (λ b. b || member x (seen_after w.init [])) (name_is x n b e h ∙ t))

  pub named_on : (x : ℕ) (n : Node) (b d : Bool) → n ≡ last_node r → b ≡ same x n.name → b ≡ false → ((qs : Procs) → IsProcs l qs → d ≡ member x (seen_after qs []))
      → d ≡ member x (seen_after ps [])
  named_on x n b d e h t k = k w.init w.front ∙ sym (w.names x ∙ ap (λ b. b || member x (seen_after w.init [])) (name_is x n b e h ∙ t))

  pub hides : (n : Node) (σ τ ω : Entries) → n ≡ last_node r → τ ≡ (n.name, Hidden) ∷ σ → ((qs : Procs) → IsProcs l qs → ω ≡ hidden (proc_names qs) τ)
      → ω ≡ hidden (proc_names ps) σ
  hides n σ τ ω e h k =
      k w.init w.front ∙ ap (hidden (proc_names w.init)) (h ∙ ap (λ (m : ℕ). (m, Hidden) ∷ σ) (ap (λ (n : Node). n.name) e ∙ w.name)) ∙ sym (w.hides σ)

  pub hidden_grown : {a b c : Checker} → Grown a b 1 → ((qs : Procs) → IsProcs l qs → Grown b c (how_many_procs qs)) → Grown a c (how_many_procs ps)
  hidden_grown g k = grown_as (omega (arith, w.many)) (grown_then g (k w.init w.front))
