-- What may be too deep of an explicit declaration that gives an entry: the entry, or its typing. Its elaboration is deep only where its typing is: no name in the explicit form is that of a
-- definition, and only names take arguments, so no term is put into another, and a type that is left behind an argument stands in the typing too. The type that is written at a lambda nests no
-- deeper than the domain that it gives, which the typing goes through; the typing of it, which stands in no typing, is told as deep only where it isn't written in full. And it makes no
-- equation, since types are the same wherever they are compared.
use Rattle.std.specs.Prelude.{List}
use Rattle.lf.specs.Entries.{Entry, IsCanonicalSignature, signature_of}
use Rattle.law_explicit_form.specs.Explicit.{IsExplicit}
use Rattle.law_explicit_form.specs.Completion.{Completes}
use Rattle.tw_parse.specs.Syntax.{Declaration}
use Rattle.tw_recon.specs.Causes.{BodyReachesDeep, HasCause}
use Rattle.tw_recon.specs.declared.fault.ReconFault.TheVariants.{TooDeep}

-- THE law: an explicit declaration that gives an entry is refused as too deep only where the entry is deeper than 4,096, or its typing derivation reaches what is deeper. It is so
-- whether or not the entry may stand.
abbrev pub ExplicitIsDeepOnlySo : Type 0
ExplicitIsDeepOnlySo = (es : List Entry) → IsCanonicalSignature es → (d : Declaration) (e : Entry) → IsExplicit es d → Completes es d e → (BodyReachesDeep (signature_of es) e.body → ⊥) → HasCause es d TooDeep → ⊥
