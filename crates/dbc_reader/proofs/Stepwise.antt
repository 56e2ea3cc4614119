-- Reading a part in steps, each seen as the code sees it.
use Rattle.std.proofs.Common.{◌≡◌, ℕ, List, Result, Ok, Err, refl, ◌∙◌}
use Rattle.std.specs.declared.option.Option.{Option}
use Rattle.limit_fraction.specs.declared.number.Decimal.{Decimal}
use Rattle.can_model.specs.Refusal.{Refusal}
use Rattle.can_model.specs.declared.database.MuxRange.{MuxRange}
use Rattle.can_model.specs.declared.refusal.TextKind.TheVariants.{NotYet}
use Rattle.dbc_reader.specs.declared.statement.Owner.{Owner}
use Rattle.dbc_reader.specs.declared.statement.Value.{Value}
use Rattle.dbc_reader.specs.declared.statement.ChoicePair.{ChoicePair}
use Rattle.dbc_reader.specs.declared.statement.Body.{Body}
use Rattle.dbc_reader.specs.declared.statement.Body.TheVariants as bodies
use Rattle.dbc_reader.specs.declared.rows.Layout.{Layout}
use Rattle.dbc_reader.specs.Token.{Lexed}
use Rattle.dbc_reader.specs.Template.{Template, Kept, word, string, mark, whole_number, is_mux_word, take, both, stop}
use Rattle.dbc_reader.specs.Parts.{value, value_of, enclosed, enclosed_of, target, owner_of, attribute_value, attribute_value_of, default_value, default_value_of, pairs, pairs_of, range, range_of, further, with_ranges, some_ranges, some_ranges_of, receivers, receivers_of, option_of}
use Rattle.dbc_reader.specs.Rows.{layout, layout_of, scaling, limits, signal, signal_from, signal_body, comment, comment_body, default, default_body, attribute, attribute_body, choices_id, choices, choices_body, ranges, ranges_body}
use Rattle.dbc_reader.specs.Reading.{one_at, unless_at, template_at, seen}
use Rattle.dbc_reader.proofs.Views.{viewed, then_seen, then_same, seen_both, seen_token}

module _ (end left between right : ℕ) where
  abbrev last_value : Template
  last_value = both value (take (mark right))

  abbrev behind_first : Template
  behind_first = both (take (mark between)) last_value

  pub enclosed_steps : (ts : List Lexed) → seen end (enclosed left between right) (enclosed_of left between right) ts
      ≡ then_seen (one_at end (mark left) ts) (λ o r. then_seen (seen end value value_of r) (λ a s. then_seen (one_at end (mark between) s) (λ b t. then_seen (seen end value value_of t) (λ c u. seen end (take (mark right)) (λ d. (a, c)) u))))
  enclosed_steps ts =
      seen_token (Decimal × Decimal) end (mark left) (both value behind_first) (enclosed_of left between right) ts
      ∙ then_same (one_at end (mark left) ts) _ _ (λ o r.
      seen_both Decimal (Decimal × Decimal) end value behind_first value_of (λ a (y : Kept behind_first). (a, value_of y.1.0)) (λ y. enclosed_of left between right (o, y)) (λ x y. refl) r
      ∙ then_same (seen end value value_of r) _ _ (λ a s.
      seen_token (Decimal × Decimal) end (mark between) last_value (λ (y : Kept behind_first). (a, value_of y.1.0)) s
      ∙ then_same (one_at end (mark between) s) _ _ (λ b t.
      seen_both Decimal (Decimal × Decimal) end value (take (mark right)) value_of (λ c y. (a, c)) (λ (y : Kept last_value). (a, value_of y.0)) (λ x y. refl) t)))

pub ranges_steps : (end : ℕ) (ts : List Lexed) → seen end some_ranges some_ranges_of ts ≡ then_seen (seen end range range_of ts) (λ r rest. seen end (further range) (with_ranges r) rest)
ranges_steps end ts = seen_both MuxRange (List MuxRange) end range (further range) range_of with_ranges some_ranges_of (λ x y. refl) ts

-- ---- rows

module _ (end : ℕ) where
  abbrev text_and_end : Template
  text_and_end = both (take string) (take (mark 59))

  pub comment_steps : (ts : List Lexed) → seen end comment comment_body ts ≡ then_seen (seen end target owner_of ts) (λ o rest. seen end text_and_end (λ y. bodies.Comment o y.0) rest)
  comment_steps ts = seen_both Owner Body end target text_and_end owner_of (λ o y. bodies.Comment o y.0) comment_body (λ x y. refl) ts

  abbrev value_and_end : Template
  value_and_end = both default_value (take (mark 59))

  pub default_steps : (ts : List Lexed) → seen end default default_body ts ≡ then_seen (one_at end string ts) (λ name rest. then_seen (seen end default_value default_value_of rest) (λ v r. seen end (take (mark 59)) (λ m. bodies.Default name v) r))
  default_steps ts =
      seen_token Body end string value_and_end default_body ts
      ∙ then_same (one_at end string ts) _ _ (λ name rest.
      seen_both Value Body end default_value (take (mark 59)) default_value_of (λ v m. bodies.Default name v) (λ (y : Kept value_and_end). default_body (name, y)) (λ x y. refl) rest)

  abbrev attribute_end : Template
  attribute_end = both attribute_value (take (mark 59))

  pub attribute_steps : (ts : List Lexed) → seen end attribute attribute_body ts
      ≡ then_seen (one_at end string ts) (λ name rest. then_seen (seen end target owner_of rest) (λ o r. then_seen (seen end attribute_value attribute_value_of r) (λ v s. seen end (take (mark 59)) (λ m. bodies.Attribute name o v) s)))
  attribute_steps ts =
      seen_token Body end string (both target attribute_end) attribute_body ts
      ∙ then_same (one_at end string ts) _ _ (λ name rest.
      seen_both Owner Body end target attribute_end owner_of (λ o (y : Kept attribute_end). bodies.Attribute name o (attribute_value_of y.0)) (λ (y : Kept (both target attribute_end)). attribute_body (name, y)) (λ x y. refl) rest
      ∙ then_same (seen end target owner_of rest) _ _ (λ o r.
      seen_both Value Body end attribute_value (take (mark 59)) attribute_value_of (λ v m. bodies.Attribute name o v) (λ (y : Kept attribute_end). bodies.Attribute name o (attribute_value_of y.0)) (λ x y. refl) r))

  abbrev pairs_and_end : Template
  pairs_and_end = both pairs (take (mark 59))

  pub choices_steps : (ts : List Lexed) → seen end choices choices_body ts
      ≡ then_seen (seen end choices_id option_of ts) (λ id rest. then_seen (one_at end word rest) (λ name r. then_seen (seen end pairs pairs_of r) (λ ps s. seen end (take (mark 59)) (λ m. bodies.Choices id name ps) s)))
  choices_steps ts =
      seen_both (Option ℕ) Body end choices_id (both (take word) pairs_and_end) option_of (λ id (y : Kept (both (take word) pairs_and_end)). bodies.Choices id y.0 (pairs_of y.1.0)) choices_body (λ x y. refl) ts
      ∙ then_same (seen end choices_id option_of ts) _ _ (λ id rest.
      seen_token Body end word pairs_and_end (λ (y : Kept (both (take word) pairs_and_end)). bodies.Choices id y.0 (pairs_of y.1.0)) rest
      ∙ then_same (one_at end word rest) _ _ (λ name r.
      seen_both (List ChoicePair) Body end pairs (take (mark 59)) pairs_of (λ ps m. bodies.Choices id name ps) (λ (y : Kept pairs_and_end). bodies.Choices id name (pairs_of y.0)) (λ x y. refl) r))

  abbrev ranges_and_end : Template
  ranges_and_end = both some_ranges (take (mark 59))

  pub ranges_row_steps : (ts : List Lexed) → seen end ranges ranges_body ts
      ≡ then_seen (one_at end (whole_number 4294967295) ts) (λ id a. then_seen (one_at end word a) (λ child b. then_seen (one_at end word b) (λ selector c. then_seen (seen end some_ranges some_ranges_of c) (λ rs d. seen end (take (mark 59)) (λ m. bodies.Ranges id child selector rs) d))))
  ranges_row_steps ts =
      seen_token Body end (whole_number 4294967295) (both (take word) (both (take word) ranges_and_end)) ranges_body ts
      ∙ then_same (one_at end (whole_number 4294967295) ts) _ _ (λ id a.
      seen_token Body end word (both (take word) ranges_and_end) (λ (y : Kept (both (take word) (both (take word) ranges_and_end))). ranges_body (id, y)) a
      ∙ then_same (one_at end word a) _ _ (λ child b.
      seen_token Body end word ranges_and_end (λ (y : Kept (both (take word) ranges_and_end)). ranges_body (id, (child, y))) b
      ∙ then_same (one_at end word b) _ _ (λ selector c.
      seen_both (List MuxRange) Body end some_ranges (take (mark 59)) some_ranges_of (λ rs m. bodies.Ranges id child selector rs) (λ (y : Kept ranges_and_end). ranges_body (id, (child, (selector, y)))) (λ x y. refl) c)))

  -- what stands behind the name of a signal, behind its `:`, its layout, its scaling and its limits
  abbrev behind_limits : Template
  behind_limits = both (take string) receivers

  abbrev behind_scaling : Template
  behind_scaling = both limits behind_limits

  abbrev behind_layout : Template
  behind_layout = both scaling behind_scaling

  abbrev behind_colon : Template
  behind_colon = both layout behind_layout

  abbrev behind_name : Template
  behind_name = both (stop is_mux_word NotYet) (both (take (mark 58)) behind_colon)

  abbrev pub signal_in_steps : List ℕ → List Lexed → Result (Body × List Lexed) Refusal
  signal_in_steps name ts =
      then_seen (unless_at is_mux_word NotYet ts) (λ x a.
      then_seen (one_at end (mark 58) a) (λ y b.
      then_seen (seen end layout layout_of b) (λ l c.
      then_seen (seen end scaling (enclosed_of 40 44 41) c) (λ s d.
      then_seen (seen end limits (enclosed_of 91 124 93) d) (λ r e.
      then_seen (one_at end string e) (λ unit f.
      seen end receivers (λ rs. signal_from name l s r unit (receivers_of rs)) f))))))

  behind_stop : (B : Type 0) (u : Template) (all : Kept (both (stop is_mux_word NotYet) u) → B) (ts : List Lexed)
      → seen end (both (stop is_mux_word NotYet) u) all ts ≡ then_seen (unless_at is_mux_word NotYet ts) (λ x a. seen end u (λ y. all (x, y)) a)
  behind_stop B u all ts = by_stop (unless_at is_mux_word NotYet ts) where
    behind : (x : Unit {0}) (r : Result (Kept u × List Lexed) Refusal) → viewed all (viewed {B = Kept (both (stop is_mux_word NotYet) u)} (λ y. (x, y)) r) ≡ viewed (λ y. all (x, y)) r
    behind x (Ok y) = refl
    behind x (Err e) = refl

    by_stop : (r : Result (Unit {0} × List Lexed) Refusal) → viewed all (then_seen r (λ x rest. viewed {B = Kept (both (stop is_mux_word NotYet) u)} (λ y. (x, y)) (template_at end u rest))) ≡ then_seen r (λ x a. seen end u (λ y. all (x, y)) a)
    by_stop (Ok x) = behind x.0 (template_at end u x.1)
    by_stop (Err e) = refl

  pub signal_steps : (ts : List Lexed) → seen end signal signal_body ts ≡ then_seen (one_at end word ts) signal_in_steps
  signal_steps ts =
      seen_token Body end word behind_name signal_body ts
      ∙ then_same (one_at end word ts) _ _ (λ name t.
      behind_stop Body (both (take (mark 58)) behind_colon) (λ (y : Kept behind_name). signal_body (name, y)) t
      ∙ then_same (unless_at is_mux_word NotYet t) _ _ (λ x a.
      seen_token Body end (mark 58) behind_colon (λ (y : Kept (both (take (mark 58)) behind_colon)). signal_body (name, (x, y))) a
      ∙ then_same (one_at end (mark 58) a) _ _ (λ c b.
      seen_both Layout Body end layout behind_layout layout_of (λ l (y : Kept behind_layout). signal_from name l (enclosed_of 40 44 41 y.0) (enclosed_of 91 124 93 y.1.0) y.1.1.0 (receivers_of y.1.1.1)) (λ (y : Kept behind_colon). signal_body (name, (x, (c, y)))) (λ l y. refl) b
      ∙ then_same (seen end layout layout_of b) _ _ (λ l d.
      seen_both (Decimal × Decimal) Body end scaling behind_scaling (enclosed_of 40 44 41) (λ s (y : Kept behind_scaling). signal_from name l s (enclosed_of 91 124 93 y.0) y.1.0 (receivers_of y.1.1)) (λ (y : Kept behind_layout). signal_from name l (enclosed_of 40 44 41 y.0) (enclosed_of 91 124 93 y.1.0) y.1.1.0 (receivers_of y.1.1.1)) (λ s y. refl) d
      ∙ then_same (seen end scaling (enclosed_of 40 44 41) d) _ _ (λ s e.
      seen_both (Decimal × Decimal) Body end limits behind_limits (enclosed_of 91 124 93) (λ r (y : Kept behind_limits). signal_from name l s r y.0 (receivers_of y.1)) (λ (y : Kept behind_scaling). signal_from name l s (enclosed_of 91 124 93 y.0) y.1.0 (receivers_of y.1.1)) (λ r y. refl) e
      ∙ then_same (seen end limits (enclosed_of 91 124 93) e) _ _ (λ r f.
      seen_token Body end string receivers (λ (y : Kept behind_limits). signal_from name l s r y.0 (receivers_of y.1)) f))))))
