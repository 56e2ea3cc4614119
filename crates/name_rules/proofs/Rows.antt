-- Worked values of the definitions, by computation.
use Rattle.std.proofs.Common.{◌≡◌, true, false, [], ◌∷◌, refl}
use Rattle.std.specs.Prelude.{codes}
use Rattle.std.specs.Fmt.{digits}
use Rattle.std.specs.declared.option.Option.TheVariants.{Some}
use Rattle.can_model.specs.declared.database.Database.{Database}
use Rattle.name_rules.specs.Identifier.{identifier_of, cut_short}
use Rattle.name_rules.specs.Reserved.{keywords, given_names, sized_types, helper_names, parameter_names, is_reserved, is_reserved_local}
use Rattle.name_rules.specs.Picks.{candidate}
use Rattle.name_rules.specs.Pruning.{pruned}
use Rattle.name_rules.specs.Wanted.{wanted_names}

capitals_tell_words_apart : identifier_of (codes "ABCDef9X") ≡ codes "abc_def9_x"
unfolding cut_short
capitals_tell_words_apart = refl

lines_alone_are_x : identifier_of (codes "__") ≡ codes "x"
unfolding cut_short
lines_alone_are_x = refl

a_digit_gets_an_x : identifier_of (codes "9a") ≡ codes "x9a"
unfolding cut_short
a_digit_gets_an_x = refl

other_bytes_part_words : identifier_of (codes " My-Bus. ") ≡ codes "my_bus"
unfolding cut_short
other_bytes_part_words = refl

-- ---- reserved words

a_keyword_is_reserved : is_reserved (codes "_Bool") ≡ true
unfolding keywords
a_keyword_is_reserved = refl

a_sized_type_is_reserved : is_reserved (codes "uint_fast16_t") ≡ true
unfolding keywords given_names sized_types
a_sized_type_is_reserved = refl

a_parameter_is_no_field : is_reserved_local (codes "dst_p") ≡ true
unfolding keywords given_names sized_types parameter_names
a_parameter_is_no_field = refl

a_field_may_be_a_parameter : is_reserved (codes "dst_p") ≡ false
unfolding keywords given_names sized_types
a_field_may_be_a_parameter = refl

a_helper_is_no_local : is_reserved_local (codes "unpack_right_shift_u32") ≡ true
unfolding keywords given_names sized_types parameter_names helper_names
a_helper_is_no_local = refl

-- ---- names with a suffix

the_second_is_2 : candidate (codes "ping") 2 ≡ codes "ping_2"
unfolding digits
the_second_is_2 = refl

a_tenth_has_two_digits : candidate (codes "ping") 10 ≡ codes "ping_10"
unfolding digits
a_tenth_has_two_digits = refl

-- ---- pruning

a_front_is_lost : pruned (codes "on_a" ∷ codes "on_b" ∷ []) ≡ codes "a" ∷ codes "b" ∷ []
a_front_is_lost = refl

no_digit_leads : pruned (codes "on_1" ∷ codes "on_2" ∷ []) ≡ codes "on_1" ∷ codes "on_2" ∷ []
no_digit_leads = refl

a_longer_front_is_lost_first : pruned (codes "on_a_b" ∷ codes "on_a_c" ∷ []) ≡ codes "b" ∷ codes "c" ∷ []
a_longer_front_is_lost_first = refl

up_to_a_digit : pruned (codes "on_a_1" ∷ codes "on_a_2" ∷ []) ≡ codes "a_1" ∷ codes "a_2" ∷ []
up_to_a_digit = refl

no_line_no_loss : pruned (codes "on" ∷ codes "on" ∷ []) ≡ codes "on" ∷ codes "on" ∷ []
no_line_no_loss = refl

one_name_stays : pruned (codes "on_a" ∷ []) ≡ codes "on_a" ∷ []
one_name_stays = refl

-- ---- what a database wants

abbrev one_message : Database
one_message = record {
  messages = record { id = 291; extended = false; name = codes "Ping"; length = 2; cycle = Some 10; comment = []; signals = []; line = 3 } ∷ [];
}

a_message_wants_its_names : wanted_names (codes "can") true one_message ≡
    codes "CAN_H" ∷ codes "CAN_PING_FRAME_ID" ∷ codes "CAN_PING_LENGTH" ∷ codes "CAN_PING_IS_EXTENDED" ∷ codes "CAN_PING_CYCLE_TIME_MS"
    ∷ codes "can_ping_t" ∷ codes "can_ping_pack" ∷ codes "can_ping_unpack" ∷ codes "can_ping_init" ∷ []
unfolding cut_short
a_message_wants_its_names = refl
