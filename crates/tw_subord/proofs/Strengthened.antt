-- The laws of subordination.
use Rattle.std.proofs.Common.{◌≡◌, ◌∙◌, List, [], ◌∷◌, map, inl, inr, refl, sym, ap, subst}
use Rattle.lf.specs.Entries.{signature_of}
use Rattle.lf.specs.Subordination.{below_itself, below_through, below_in_constant, below_in_kind, below_in_entry, Block, Member}
use Rattle.lf.proofs.Declared.{below_self_contained}
use Rattle.lf.proofs.Entries.{canonical_is_signature}
use Rattle.lf.proofs.Strength.{strengthening_keeps_typing}
use Rattle.lf.proofs.Strengthening.{strengthening}
use Rattle.tw_subord.specs.Laws.{EntriesAloneMatter, RowsAreSubordination, TermsUseWhatIsBelow, below_set}

pub entries_alone : EntriesAloneMatter
entries_alone Σ V W e a b below_itself = below_itself
entries_alone Σ V W e a b (below_through {b = m} p q) = below_through (entries_alone Σ V W e a m p) (entries_alone Σ V W e m b q)
entries_alone Σ V W e a b (below_in_constant c U h q) = below_in_constant c U h q
entries_alone Σ V W e a b (below_in_kind f K h q) = below_in_kind f K h q
entries_alone Σ V W e a b (below_in_entry B E m i q) = let r = e E (B, m, i) in below_in_entry r.0 E r.1 r.2 q

pub rows_subordinate : RowsAreSubordination
rows_subordinate es g W k rows t =
    record {
      itself = λ f. (t f f).1 below_itself;
      through = λ f g p a h. (t a f).1 (below_through ((t a g).0 h) ((t g f).0 p));
      self_contained = λ f d. below_self_contained (signature_of es) W (below_set rows f) f (canonical_is_signature es g) k d (λ b. t b f);
    }

pub terms_use : TermsUseWhatIsBelow
terms_use es g W k rows t f d Σ x G w U all M A i h D ρ r =
    strengthening_keeps_typing Σ x.ok U G D ρ M A r
    (strengthening (signature_of es) Σ W (below_set rows f) (below_set rows f) (λ a p. p) ((rows_subordinate es g W k rows t).self_contained f d) x G w U all M A i h) h
