-- What is typed over the signature with entries is so over each that extends it; so are the stores of a typed case and a pattern at each place well formed there.
use Rattle.std.proofs.Common.{◌≡◌, ℕ, List, [], sym, ap, ◌∙◌, subst, Option, Some}
use Rattle.lf.specs.Syntax.{Term, LfType, Kind}
use Rattle.lf.specs.Substitution.{Image, substitute_type, reduce}
use Rattle.lf.specs.Typing.{Signature, IsSignature, IsTypedSubstitution}
use Rattle.lf.specs.Variables.{nothing, onto, target}
use Rattle.lf.specs.Subordination.{Block, AreTypedBlocks}
use Rattle.lf.specs.Extension.{Extends}
use Rattle.lf.proofs.ExtensionTyping.{extension_keeps_contexts, extension_keeps_typing}
use Rattle.lf_unification.specs.Solving.{IsWellFormed}
use Rattle.lf_cases.specs.Missing.{blocks_with}
use Rattle.lf_cases.specs.Pattern.{Pattern}
use Rattle.lf_coverage.specs.Leaf.{IsTypedPattern}
use Rattle.lf_coverage.proofs.Transfer.{have_more}
use Rattle.lf_numbered.specs.EntryConstants.{IsFreeFrom, with_entries}
use Rattle.lf_numbered.specs.MeetsReady.{AreTypedBeside, IsPlainlyTyped, IsTypedAtPlace, MeetStoreByNumberIsReady}
use Rattle.lf_numbered.specs.NumberedCallsStores.{Identifies, IsPutBeside, identified, meet_store_by_number}
use Rattle.lf_numbered.specs.NumberedCase.{NumberedCase}
use Rattle.lf_numbered.specs.OwnTerms.{blocks_of}
use Rattle.lf_numbered.specs.TypedNumbered.{IsTypedNumberedCase}
use Rattle.lf_numbered.proofs.EntryPatternsMatching.{entries_signature}
use Rattle.lf_numbered.proofs.EntrySignature.{entries_kept, grown_image}
use Rattle.lf_numbered.proofs.MeetsReadyPlaces.{Placed, placed_case, placed_same, settled}
use Rattle.lf_numbered.proofs.MeetsReadyStores.{placed_store_is_ready}
use Rattle.lf_numbered.proofs.MovedConstants.{blocks_stay}
use Rattle.lf_numbered.proofs.NumberedBesideTerms.{pattern_more, arguments_more}

module _ (Σ Σ' : Signature) (x : Extends nothing Σ Σ') where
  pub substitution_more : (G X : List LfType) (θ : ℕ → Image) → IsTypedSubstitution Σ G X θ → IsTypedSubstitution Σ' G X θ
  substitution_more G X θ s i A g = grown_image Σ Σ' x.types_stay x.kinds_stay X (θ i) (substitute_type reduce θ A) (s i A g)

  pub beside_more : (X L : List LfType) (Ms Ns : List (Option Term)) (T : LfType) (K : Kind) → AreTypedBeside Σ X L Ms Ns T K → AreTypedBeside Σ' X L Ms Ns T K
  beside_more X L Ms Ns T K b = record { given = λ i A M g q. extension_keeps_typing nothing Σ Σ' x X M _ (b.given i A M g q); local = b.local; arguments = arguments_more nothing Σ Σ' x [] (onto L X) Ns _ K b.arguments }

  pub plain_more : (V : List Block) (J : NumberedCase) → IsPlainlyTyped Σ V J → IsPlainlyTyped Σ' V J
  plain_more V J t = record {
    variables = extension_keeps_contexts nothing Σ Σ' x J.variables t.variables;
    blocks = λ k b e. let (m, (υ, s, q)) = t.blocks k b e in (m, (υ, substitution_more b.block.some J.variables υ s, q));
    local = extension_keeps_contexts nothing Σ Σ' x (onto J.local J.variables) t.local;
    given = have_more nothing Σ Σ' x _ J.given t.given;
    arguments = have_more nothing Σ Σ' x _ J.arguments t.arguments;
  }

module _ (Σ : Signature) (ok : IsSignature Σ) (W : List Block) (first : ℕ) (free : IsFreeFrom Σ first) (C : NumberedCase) (tc : IsTypedNumberedCase Σ first W C) (p : Pattern) (typed : AreTypedBlocks Σ (blocks_with p.origin W)) (π : ℕ → ℕ) (is : Identifies C π) (J : NumberedCase) (φ : ℕ → Image) (at : IsPutBeside first (identified first π C) π p.at_first p.clause p.origin J φ) where
  abbrev V : List Block
  V = blocks_with p.origin W

  abbrev Σ₁ : Signature
  Σ₁ = with_entries Σ first (blocks_of J.blocks)

  abbrev s : Placed Σ first (blocks_with p.origin W) C π p.clause J φ
  s = settled Σ ok W first free C tc π is p.clause p.origin p.at_first typed J φ at

  -- the signature with the entries of this case
  pub place_signature : IsSignature (with_entries Σ first (blocks_of J.blocks))
  place_signature = subst (λ Bs. IsSignature (with_entries Σ first Bs)) (sym (blocks_stay _ s.from.blocks) ∙ ap (λ (H : NumberedCase). blocks_of H.blocks) s.becomes) (entries_signature Σ ok V typed first free s.from s.typed)

  pub place_extends : Extends nothing Σ (with_entries Σ first (blocks_of J.blocks))
  place_extends = record { ok = place_signature; types_stay = entries_kept Σ first (blocks_of J.blocks); kinds_stay = λ a K e. e; no_new = λ c A e s. absurd cc }

  module _ (tp : IsTypedPattern Σ p) (K : Kind) (e : Σ.kinds (target p.type) ≡ Some K) (Σe : Signature) (x : Extends nothing (with_entries Σ first (blocks_of J.blocks)) Σe) (beside : IsTypedAtPlace Σe J p φ K) where
    pub place_ready : IsWellFormed Σe (meet_store_by_number π J p φ K)
    place_ready =
        let (plain, outer) = placed_case Σ ok W first free C tc π is p.clause p.origin p.at_first typed J φ at in
        placed_store_is_ready Σe x.ok V (λ B m. extension_keeps_contexts nothing Σ₁ Σe x (onto B.entries B.some) (extension_keeps_contexts nothing Σ Σ₁ place_extends (onto B.entries B.some) (typed B m)))
        J (plain_more Σ₁ Σe x V J plain)
        p (pattern_more nothing Σ₁ Σe x V p (pattern_more nothing Σ Σ₁ place_extends V p tp))
        φ (substitution_more Σ₁ Σe x p.clause.outer J.variables φ outer)
        K (x.kinds_stay (target p.type) K e)
        beside
        π (placed_same Σ ok W first free C tc π is p.clause p.origin p.at_first typed J φ at)

pub meet_store_by_number_is_ready : MeetStoreByNumberIsReady
meet_store_by_number_is_ready Σ ok W first free C tc p tp typed π is J φ at K e b Σe x = place_ready Σ ok W first free C tc p typed π is J φ at tp K e Σe x (beside_more (with_entries Σ first (blocks_of J.blocks)) Σe x _ _ _ _ _ K b)
