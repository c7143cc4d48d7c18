-- One step more back over the stretches.
use Rattle.std.proofs.Common.{◌≡◌, ℕ, zero, suc, ◌+◌, ◌-◌, ◌<◌, ◌≤◌, List, Some, None, Option, sym, refl, ap, ◌∙◌, arith}
use Rattle.language.specs.declared.tables.Node.{Node}
use Rattle.language.specs.Results.{◌>>?◌}
use Rattle.table.specs.declared.node.Sort.{Sort}
use Rattle.table.specs.Walk.{step_back, walk}

module _ (ns : List Node) (ls : List ℕ) (so : Sort) where
  -- i steps of n are done, and from is where they led
  walk_more : (n i from : ℕ) → i < n → walk ns ls so (n - i) from ≡ (step_back ns ls so from >>? walk ns ls so (n - (i + 1)))
  unfolding walk
  walk_more n i from h = let p : n - i ≡ suc (n - (i + 1)) = omega arith in rw p refl

  pub walk_stop : (n i from : ℕ) {end : Option ℕ} → i < n → None ≡ step_back ns ls so from → walk ns ls so (n - i) from ≡ end → None ≡ end
  walk_stop n i from h s w = ap (λ o. o >>? walk ns ls so (n - (i + 1))) s ∙ sym (walk_more n i from h) ∙ w

  pub walk_on : (n i from next : ℕ) {end : Option ℕ} → i < n → Some next ≡ step_back ns ls so from → walk ns ls so (n - i) from ≡ end
      → walk ns ls so (n - (i + 1)) next ≡ end
  walk_on n i from next h s w = ap (λ o. o >>? walk ns ls so (n - (i + 1))) s ∙ sym (walk_more n i from h) ∙ w

  pub walk_last : (n i from : ℕ) {end : Option ℕ} → n ≤ i → walk ns ls so (n - i) from ≡ end → Some from ≡ end
  unfolding walk
  walk_last n i from h w = let p : n - i ≡ zero = omega arith in ap (λ k. walk ns ls so k from) (sym p) ∙ w
