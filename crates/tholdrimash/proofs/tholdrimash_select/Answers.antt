use Rattle.tholdrimash.proofs.Few.{said-few}
use Rattle.tholdrimash.proofs.tholdrimash_select.Goals as goal

pub chosen_fields-requires : goal.chosen_fields-requires
chosen_fields-requires c = said-few _ _ _ c.resolve_encoding-selection.result c.resolve_encoding-selection.ensures.answers
