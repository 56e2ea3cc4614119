-- The helpers' names: no macro and no header gives them, and no pack function has one of them.
use Rattle.std.proofs.Common.{◌≡◌, ◌≢◌, ℕ, List, inl, inr, refl, ap, ◌∙◌, arith}
use Rattle.std.specs.Str.{bytes_eq}
use Rattle.std.proofs.lemmas.Bool.{false_from_ne_true}
use Rattle.std.proofs.lemmas.Slice.Eq.{bytes_eq-Decides}
use Rattle.name_rules.specs.Reserved.{keywords, given_names, sized_types}
use Rattle.c_printed.specs.Printable.{w8, w16, w32, w64}
use Rattle.c_printed.specs.Printable as printed
use Rattle.shift_helpers.specs.declared.helper.HelperKind.{HelperKind}
use Rattle.shift_helpers.specs.declared.helper.HelperKind.TheVariants.{PackLeft, PackRight, UnpackLeft, UnpackRight}
use Rattle.shift_helpers.specs.HelperResult.{IsWidth}
use Rattle.shift_helpers.specs.HelperTree.{helper_name}
use Rattle.gen_items.specs.ItemNames.{IsNoHelper}
use Rattle.gen_unit.proofs.Letters.{ending, Ends}
use Rattle.gen_unit.proofs.OwnNames.{IsOwn, is-own}

pub helper-own : (kind : HelperKind) (w : ℕ) → printed.IsWidth w → IsOwn (helper_name kind w)
unfolding keywords given_names sized_types helper_name
helper-own PackLeft _ w8 = is-own (helper_name PackLeft 8) refl refl refl
helper-own PackLeft _ w16 = is-own (helper_name PackLeft 16) refl refl refl
helper-own PackLeft _ w32 = is-own (helper_name PackLeft 32) refl refl refl
helper-own PackLeft _ w64 = is-own (helper_name PackLeft 64) refl refl refl
helper-own PackRight _ w8 = is-own (helper_name PackRight 8) refl refl refl
helper-own PackRight _ w16 = is-own (helper_name PackRight 16) refl refl refl
helper-own PackRight _ w32 = is-own (helper_name PackRight 32) refl refl refl
helper-own PackRight _ w64 = is-own (helper_name PackRight 64) refl refl refl
helper-own UnpackLeft _ w8 = is-own (helper_name UnpackLeft 8) refl refl refl
helper-own UnpackLeft _ w16 = is-own (helper_name UnpackLeft 16) refl refl refl
helper-own UnpackLeft _ w32 = is-own (helper_name UnpackLeft 32) refl refl refl
helper-own UnpackLeft _ w64 = is-own (helper_name UnpackLeft 64) refl refl refl
helper-own UnpackRight _ w8 = is-own (helper_name UnpackRight 8) refl refl refl
helper-own UnpackRight _ w16 = is-own (helper_name UnpackRight 16) refl refl refl
helper-own UnpackRight _ w32 = is-own (helper_name UnpackRight 32) refl refl refl
helper-own UnpackRight _ w64 = is-own (helper_name UnpackRight 64) refl refl refl

-- each ends with a `u` and digits
helper-end : (kind : HelperKind) (w : ℕ) → IsWidth w → ending (helper_name kind w) ≡ 117
unfolding helper_name
helper-end PackLeft w (inl e) = ap (λ n. ending (helper_name PackLeft n)) e
helper-end PackLeft w (inr (inl e)) = ap (λ n. ending (helper_name PackLeft n)) e
helper-end PackLeft w (inr (inr (inl e))) = ap (λ n. ending (helper_name PackLeft n)) e
helper-end PackLeft w (inr (inr (inr e))) = ap (λ n. ending (helper_name PackLeft n)) e
helper-end PackRight w (inl e) = ap (λ n. ending (helper_name PackRight n)) e
helper-end PackRight w (inr (inl e)) = ap (λ n. ending (helper_name PackRight n)) e
helper-end PackRight w (inr (inr (inl e))) = ap (λ n. ending (helper_name PackRight n)) e
helper-end PackRight w (inr (inr (inr e))) = ap (λ n. ending (helper_name PackRight n)) e
helper-end UnpackLeft w (inl e) = ap (λ n. ending (helper_name UnpackLeft n)) e
helper-end UnpackLeft w (inr (inl e)) = ap (λ n. ending (helper_name UnpackLeft n)) e
helper-end UnpackLeft w (inr (inr (inl e))) = ap (λ n. ending (helper_name UnpackLeft n)) e
helper-end UnpackLeft w (inr (inr (inr e))) = ap (λ n. ending (helper_name UnpackLeft n)) e
helper-end UnpackRight w (inl e) = ap (λ n. ending (helper_name UnpackRight n)) e
helper-end UnpackRight w (inr (inl e)) = ap (λ n. ending (helper_name UnpackRight n)) e
helper-end UnpackRight w (inr (inr (inl e))) = ap (λ n. ending (helper_name UnpackRight n)) e
helper-end UnpackRight w (inr (inr (inr e))) = ap (λ n. ending (helper_name UnpackRight n)) e

not-u : (n : ℕ) → Ends 107 n → n ≢ 117
not-u n (inl e) h = absurd (omega (arith, e, h))
not-u n (inr e) h = absurd (omega (arith, e, h))

-- a name that ends with `k`, or with a number behind `_`
pub no-helper : (x : List ℕ) → Ends 107 (ending x) → IsNoHelper x
no-helper x h kind w iw =
    false_from_ne_true (bytes_eq x (helper_name kind w)) (λ e. not-u (ending x) h (ap ending ((bytes_eq-Decides x (helper_name kind w)).0 e) ∙ helper-end kind w iw))
