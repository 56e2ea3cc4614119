-- Helpers of different kinds or widths have different names, and so do any of them.
use Rattle.std.proofs.Common.{◌≡◌, ℕ, Bool, true, false, cond, List, [], ◌∷◌, filter, refl}
use Rattle.std.specs.Prelude.{bytes_eq}
use Rattle.shift_helpers.specs.declared.helper.HelperKind.{HelperKind}
use Rattle.shift_helpers.specs.HelperTree.{helper_name}
use Rattle.gen_types.specs.HelperList.{Lack, AreDifferent, every_helper}

pub every-different : AreDifferent every_helper
unfolding helper_name
every-different =
    ((refl, (refl, (refl, (refl, (refl, (refl, (refl, (refl, (refl, (refl, (refl, (refl, (refl, (refl, (refl, tt))))))))))))))), ((refl, (refl, (refl, (refl, (refl, (refl, (refl, (refl, (refl, (refl, (refl, (refl, (refl, (refl, tt)))))))))))))), ((refl, (refl, (refl, (refl, (refl, (refl, (refl, (refl, (refl, (refl, (refl, (refl, (refl, tt))))))))))))), ((refl, (refl, (refl, (refl, (refl, (refl, (refl, (refl, (refl, (refl, (refl, (refl, tt)))))))))))), ((refl, (refl, (refl, (refl, (refl, (refl, (refl, (refl, (refl, (refl, (refl, tt))))))))))), ((refl, (refl, (refl, (refl, (refl, (refl, (refl, (refl, (refl, (refl, tt)))))))))), ((refl, (refl, (refl, (refl, (refl, (refl, (refl, (refl, (refl, tt))))))))), ((refl, (refl, (refl, (refl, (refl, (refl, (refl, (refl, tt)))))))), ((refl, (refl, (refl, (refl, (refl, (refl, (refl, tt))))))), ((refl, (refl, (refl, (refl, (refl, (refl, tt)))))), ((refl, (refl, (refl, (refl, (refl, tt))))), ((refl, (refl, (refl, (refl, tt)))), ((refl, (refl, (refl, tt))), ((refl, (refl, tt)), ((refl, tt), (tt, tt))))))))))))))))

lack-first : (b : Bool) (h : HelperKind × ℕ) (helpers : List (HelperKind × ℕ)) (name : List ℕ) → bytes_eq name (helper_name h.0 h.1) ≡ false → Lack helpers name → Lack (cond b (h ∷ helpers) helpers) name
lack-first true h helpers name first rest = (first, rest)
lack-first false h helpers name first rest = rest

lack-filter : (test : HelperKind × ℕ → Bool) (helpers : List (HelperKind × ℕ)) (name : List ℕ) → Lack helpers name → Lack (filter test helpers) name
lack-filter test [] name lack = tt
lack-filter test (h ∷ helpers) name lack = lack-first (test h) h (filter test helpers) name lack.0 (lack-filter test helpers name lack.1)

different-first : (b : Bool) (h : HelperKind × ℕ) (helpers : List (HelperKind × ℕ)) → Lack helpers (helper_name h.0 h.1) → AreDifferent helpers → AreDifferent (cond b (h ∷ helpers) helpers)
different-first true h helpers lack rest = (lack, rest)
different-first false h helpers lack rest = rest

pub filter-different : (test : HelperKind × ℕ → Bool) (helpers : List (HelperKind × ℕ)) → AreDifferent helpers → AreDifferent (filter test helpers)
filter-different test [] different = tt
filter-different test (h ∷ helpers) different = different-first (test h) h (filter test helpers) (lack-filter test helpers (helper_name h.0 h.1) different.0) (filter-different test helpers different.1)
