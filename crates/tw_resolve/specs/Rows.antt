-- Rows of arguments and chains of ascriptions, read from what stands in front on.
use Rattle.std.specs.Prelude.{List, [], ◌∷◌, Some}
use Rattle.lf.specs.Entries.{Entry}
use Rattle.lf.specs.Syntax.{Skeleton}
use Rattle.lf_elaboration.specs.Written.{Written, applied}
use Rattle.tw_approx.specs.Readings.{Reading, and_then}
use Rattle.tw_fixity.specs.Names.{Names}
use Rattle.tw_parse.specs.Applied.{written_terms}
use Rattle.tw_parse.specs.Syntax.{Term}
use Rattle.tw_parse.specs.View.{term_of}
use Rattle.tw_resolve.specs.Resolving.{with_both, made, resolved_term}
use Rattle.tw_resolve.specs.declared.rows.Begun.{Begun}
use Rattle.tw_resolve.specs.declared.rows.Next.{Next}
use Rattle.tw_resolve.specs.declared.rows.Next.TheVariants.{Argument, Nothing}
use Rattle.tw_written.specs.View.{written_of}

-- a reading with the parts that are read behind it, the last one first
abbrev pub read_on : {A B : Type 0} → (A → B → List Skeleton → Reading A) → (Term → List Skeleton → Reading B) → List Term → Reading A → Reading A
read_on make read [] r = r
read_on make read (P ∷ Ps) r = with_both make (read_on make read Ps r) (read P)

module _ (es : List Entry) (free N : Names) where
  -- a reading of a term, put to these arguments
  abbrev pub on_arguments : List Term → Reading Written → Reading Written
  on_arguments Ps r = read_on (made applied) (resolved_term es free N) Ps r

  -- a row that waits for an argument, which is read
  abbrev pub row_read : Begun → Reading Written → Reading Written
  row_read w r = on_arguments (written_terms w.arguments.items) (and_then r (made applied (written_of w.function)))

  -- rows that wait, each one for the next, and the last one for what is read
  abbrev pub rows_read : List Begun → Reading Written → Reading Written
  rows_read [] r = r
  rows_read (w ∷ ws) r = row_read w (rows_read ws r)

  -- what is to be done next where these rows wait, or the whole
  abbrev pub next_read : List Begun → Next → List Skeleton → Reading Written
  next_read ws (Argument P) o = rows_read ws (resolved_term es free N (term_of P.now) o)
  next_read ws (Nothing M) o = Some (written_of M, o)
