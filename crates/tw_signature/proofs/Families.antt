-- A family of the kind `type` may stand over each signature.
use Rattle.std.proofs.Common.{◌≡◌, [], length, sym, ap, ◌∙◌, subst, arith}
use Rattle.lf.specs.Syntax.{star}
use Rattle.lf.specs.Depth.{depth_limit}
use Rattle.lf.specs.Typing.{Signature}
use Rattle.lf.specs.Entries.{Entry, declare_family, body_quantifiers, BodyIsTyped, BodyIsWithin, IsCanonicalEntry}

pub family_is_canonical : (Σ : Signature) (e : Entry) → e.body ≡ declare_family star → e.implicit ≡ 0 → e.hints ≡ [] → IsCanonicalEntry Σ e
family_is_canonical Σ e b i h = record {
  typed = subst (BodyIsTyped Σ) (sym b) tt;
  within = subst (BodyIsWithin depth_limit) (sym b) (omega arith);
  implicit_lead = omega arith;
  hint_each = ap length h ∙ sym (ap body_quantifiers b);
}

pub ruleset families = (family_is_canonical)
