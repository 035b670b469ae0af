-- An explicit declaration is completed as it would be reconstructed.
use Rattle.std.specs.Prelude.{◌≡◌, List, [], Some, ◌⊎◌}
use Rattle.lf.specs.Entries.{Entry, IsCanonicalEntry, IsCanonicalSignature, signature_of}
use Rattle.lf_elaboration.specs.Principal.{Completion, IsCompletion, IsPrincipal, WrittenBody}
use Rattle.tw_approx.specs.Answer.{HasSkeletons, IsClash, IsOfObjects}
use Rattle.law_explicit_form.specs.Explicit.{IsExplicit}
use Rattle.law_explicit_form.specs.Completion.{Completes}
use Rattle.tw_parse.specs.Syntax.{Declaration}
use Rattle.tw_resolve.specs.Resolved.{resolved_body}

-- The declaration has skeletons in just one way: it has no free variable, and nothing in it is left out. So its names are resolved, and the body of the entry is the
-- principal completion of what is written, over no quantifiers.
pub record IsPrincipallyCompleted (es : List Entry) (d : Declaration) (e : Entry) : Type 0 where
  pub objects : IsOfObjects es d
  pub skeletons : HasSkeletons es d [] []
  pub written : WrittenBody
  pub resolved : resolved_body es [] [] d ≡ Some written
  pub principal : IsPrincipal es [] written (record { quantifiers = []; frees = []; body = e.body })

-- THE law: what an explicit declaration is completed to is its principal completion, where it may stand.
abbrev pub ExplicitIsPrincipal : Type 0
ExplicitIsPrincipal = (es : List Entry) → IsCanonicalSignature es → (d : Declaration) (e : Entry) → IsExplicit es d → Completes es d e → IsCanonicalEntry (signature_of es) e → IsPrincipallyCompleted es d e

-- No skeletons fit, or what is written with the only ones has no completion.
abbrev pub HasNoCompletion : List Entry → Declaration → Type 0
HasNoCompletion es d = IsClash es d ⊎ ((w : WrittenBody) × HasSkeletons es d [] [] × (resolved_body es [] [] d ≡ Some w) × ((c : Completion) → IsCompletion es [] w c → ⊥))

-- And where it gives no entry, there is no completion, typed or not.
abbrev pub ExplicitMismatchHasNoCompletion : Type 0
ExplicitMismatchHasNoCompletion = (es : List Entry) → IsCanonicalSignature es → (d : Declaration) → IsExplicit es d → ((e : Entry) → Completes es d e → ⊥) → IsOfObjects es d × HasNoCompletion es d
