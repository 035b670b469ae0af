-- Cases whose local context is typed.
use Rattle.lf.specs.Typing.{Signature, IsContext}
use Rattle.lf.specs.Variables.{onto}
use Rattle.lf_cases.specs.Case.{Case, items_context}

-- The local context of a case is one over its items. That of copying under a binder, {x:exp} {u:cp x x} over E and F, is; {u:cp x x} {x:exp} isn't.
abbrev pub HasTypedLocal : Signature → Case → Type 0
HasTypedLocal Σ C = IsContext Σ (onto C.local (items_context C.items))
