-- What is printed of a write that is refused.
use Rattle.std.specs.Prelude.{ℕ, List, codes}
use Rattle.store.specs.declared.WriteRefusal.{WriteRefusal}
use Rattle.store.specs.declared.WriteRefusal.TheVariants.{Dead, Kind}

abbrev pub refusal_text : WriteRefusal → List ℕ
refusal_text Dead = codes "dead"
refusal_text Kind = codes "kind"
