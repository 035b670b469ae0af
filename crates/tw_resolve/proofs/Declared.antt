-- The skeletons that are found are of declared families: with others in place of those that aren't, the declaration would still fit.
use Rattle.std.proofs.Common.{◌≡◌, ℕ, List, [], ◌∷◌, Bool, true, false, inl, inr, if◌then◌else◌, refl, sym, ap, subst}
use Rattle.std.specs.Str.{bytes_eq}
use Rattle.lf.specs.Entries.{Entry}
use Rattle.lf.specs.Syntax.{Skeleton}
use Rattle.lf_elaboration.specs.WrittenSkeletons.{AllDeclared, SkeletonIsDeclared}
use Rattle.tw_approx.specs.Answer.{Rows, frees_of, HasRow, AreDistinct}
use Rattle.tw_approx.proofs.Naming.{name_is, is_name}
use Rattle.tw_resolve.specs.Resolved.{skeletons_of, FoundAreDeclared}
use Rattle.tw_resolve.proofs.Marking.{mark_all, marked_frees, same_declared, same_all, fits_marked}

pub first_row : (y : List ℕ) (s : Skeleton) (rows : Rows) → frees_of ((y, s) ∷ rows) y ≡ s
first_row y s rows = ap (λ (b : Bool). if b then s else frees_of rows y) (is_name y y refl)

later_at : (y x : List ℕ) (s t : Skeleton) (b : Bool) → bytes_eq y x ≡ b → (y ≡ x → ⊥) → (if b then s else t) ≡ t
later_at y x s t true e n = absurd (n (name_is y x e))
later_at y x s t false e n = refl

pub later_row : (y x : List ℕ) (s : Skeleton) (rows : Rows) → (HasRow y rows → ⊥) → HasRow x rows → frees_of ((y, s) ∷ rows) x ≡ frees_of rows x
later_row y x s rows n h = later_at y x s (frees_of rows x) (bytes_eq y x) refl (λ e. n (subst (λ z. HasRow z rows) (sym e) h))

-- rows whose skeletons are of declared families
rows_declared : (es : List Entry) (rows : Rows) → AreDistinct rows → ((x : List ℕ) → HasRow x rows → SkeletonIsDeclared es (frees_of rows x)) → AllDeclared es (skeletons_of rows)
rows_declared es [] d h = tt
rows_declared es ((y, s) ∷ rows) (n, d) h = (
  subst (SkeletonIsDeclared es) (first_row y s rows) (h y (inl refl)),
  rows_declared es rows d (λ x r. subst (SkeletonIsDeclared es) (later_row y x s rows n r) (h x (inr r))),
)

pub found_are_declared : FoundAreDeclared
found_are_declared es canonical d rows o h =
    let same = h.only (marked_frees es canonical (frees_of rows)) (mark_all es o) (fits_marked es canonical (frees_of rows) d o h.fits) in (
      rows_declared es rows h.distinct (λ x r. same_declared es (frees_of rows x) (same.frees x (h.row_is_free x r))),
      same_all es o same.omitted,
    )
