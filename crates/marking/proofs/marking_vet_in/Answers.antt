-- The texts of a verdict are short enough for the fields of the number. Assumes nothing.
use Rattle.marking.proofs.Packing.{short_texts}
use Rattle.marking.proofs.marking_vet_in.Goals as goal

pub packed-requires : goal.packed-requires
packed-requires c = short_texts _ _ _ _ _ c.vet_pattern.result c.vet_pattern.ensures
