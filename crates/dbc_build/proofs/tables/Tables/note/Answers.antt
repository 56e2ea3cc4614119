-- One table gets what the statement says, and of the others it says nothing.
use Rattle.std.proofs.Common.{refl, Some}
use Rattle.dbc_build.proofs.Putting.{on_ok, choices_said}
use Rattle.dbc_build.proofs.tables.Tables.note.Goals as goal

pub returns-in-Comment : goal.returns-in-Comment
returns-in-Comment c = on_ok c.put.result c.put.ensures (λ h. rw c.in-Comment.is (record {
  comment = λ s. rw (c.subject_of.ensures s) (h s);
  attribute = λ n s. refl;
  default = λ n. refl;
  choices = λ i n. refl;
  value_type = λ i n. refl;
}))

pub returns-in-Attribute : goal.returns-in-Attribute
returns-in-Attribute c = on_ok c.put-in-Attribute.result c.put-in-Attribute.ensures (λ h. rw c.in-Attribute.is (record {
  comment = λ s. refl;
  attribute = λ n s. rw (← c.attribute_of.ensures n s) (h (n, s));
  default = λ n. refl;
  choices = λ i n. refl;
  value_type = λ i n. refl;
}))

pub returns-in-Choices : goal.returns-in-Choices
returns-in-Choices c = on_ok c.put-in-Choices.result c.put-in-Choices.ensures (λ h. rw c.in-Choices.is (record {
  comment = λ s. refl;
  attribute = λ n s. refl;
  default = λ n. refl;
  choices = λ i n. rw (choices_said c.in-Choices.id c.in-Choices.name c.in-Choices.pairs i n.now, ← c.signal_of.ensures i n) (h (i, Some n));
  value_type = λ i n. refl;
}))

pub returns-in-ValueType : goal.returns-in-ValueType
returns-in-ValueType c = on_ok c.put-in-ValueType.result c.put-in-ValueType.ensures (λ h. rw c.in-ValueType.is (record {
  comment = λ s. refl;
  attribute = λ n s. refl;
  default = λ n. refl;
  choices = λ i n. refl;
  value_type = λ i n. rw (← c.signal_of-in-ValueType.ensures i n) (h (i, Some n));
}))
