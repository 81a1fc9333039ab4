-- The part before the first comma or CR LF is the field, and a comma behind it is followed by the other fields.
use Rattle.std.proofs.Common.{[], ◌∷◌, rules}
use Rattle.csv_text.specs.Text.{comma}
use Rattle.std.proofs.lemmas.Slice.Eq.{strip_prefix_is}
use Rattle.std.proofs.lemmas.Bool.Decides.{Decides-eqb}
use Rattle.csv_text.proofs.Splitting.{splits_head_fields}
use Rattle.records.proofs.Spelling.{cut_is}
use Rattle.records.proofs.Fields.{split_is}
use Rattle.records.proofs.split_field.Goals as goal

pub returns : goal.returns
returns c =
    let field = cut_is splits_head_fields _ (λ t b k. search rules) _ _ c.part_before-field.ensures in
    split_is c.args.text.now _ field c.part_before-field.ensures.within c.strip_prefix.result
    (strip_prefix_is Decides-eqb _ (comma ∷ []) c.strip_prefix.result c.strip_prefix.ensures.cases)
