-- Text that is put together from records and fields splits into the same again. Assumes nothing.
use Rattle.laws.proofs.Base.{◌≡◌, refl, ap, [], ◌∷◌, ◌++◌, ne_eqb}
use Rattle.laws.specs.Tests.{Each}
use Rattle.csv_text.specs.Text.{Bytes, comma, cr, crlf, on_first, records, fields}

-- A record without CR, ended by CR LF.
pub records_join : (r s : Bytes) → Each (λ b. ¬ (b ≡ cr)) r → records (r ++ crlf ++ s) ≡ r ∷ records s
unfolding records
records_join [] s n = refl
records_join (b ∷ []) s n = rw (ne_eqb b cr n.0)
records_join (b ∷ c ∷ r) s n = rw (ne_eqb b cr n.0) (ap (on_first b) (records_join (c ∷ r) s n.1))

-- A field without a comma, before another or alone.
pub fields_join : (f s : Bytes) → Each (λ b. ¬ (b ≡ comma)) f → fields (f ++ (comma ∷ []) ++ s) ≡ f ∷ fields s
unfolding fields
fields_join [] s n = refl
fields_join (b ∷ f) s n = rw (ne_eqb b comma n.0) (ap (on_first b) (fields_join f s n.1))

pub fields_last : (f : Bytes) → Each (λ b. ¬ (b ≡ comma)) f → fields f ≡ f ∷ []
unfolding fields
fields_last [] n = refl
fields_last (b ∷ f) n = rw (ne_eqb b comma n.0) (ap (on_first b) (fields_last f n.1))
