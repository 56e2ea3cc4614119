-- How many messages and signals a database may have.
use Rattle.std.specs.Prelude.{◌≡◌, None, slice_get}
use Rattle.can_model.specs.Validity.{all_signals}
use Rattle.can_model.specs.declared.database.Database.{Database}

-- at most 16384 messages, and at most 32768 signals in all
pub record AreFew (db : Database) : Type 0 where
  pub messages : slice_get db.messages 16384 ≡ None
  pub signals : slice_get (all_signals db) 32768 ≡ None
