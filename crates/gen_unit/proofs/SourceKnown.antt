-- Behind its includes a source knows what its functions need: the names of the headers, `memset`, and the error's number.
use Rattle.std.proofs.Common.{◌≡◌, ℕ, false, List, [], ◌∷◌, ◌++◌, map, Some, None, refl, sym, ap, subst, ◌∙◌}
use Rattle.std.specs.Prelude.{codes}
use Rattle.std.specs.List.{AllByRecursion}
use Rattle.std.specs.Str.{bytes_eq}
use Rattle.c_effect.proofs.Locals.{same-name}
use Rattle.cg_out.specs.Words.{look_up}
use Rattle.can_model.specs.declared.database.Message.{Message}
use Rattle.name_rules.specs.declared.table.SymbolTable.{SymbolTable}
use Rattle.name_rules.specs.declared.table.MessageNames.{MessageNames}
use Rattle.name_rules.specs.declared.table.SignalNames.{SignalNames}
use Rattle.name_rules.specs.Symbols.{local_names}
use Rattle.c_text.specs.declared.token.TokenKind.TheVariants as kind
use Rattle.c_text.specs.StandardHeader.{Header, string_h, kind_in}
use Rattle.c_tree.specs.declared.expression.Callee.TheVariants.{Memset}
use Rattle.c_printed.specs.Printable.{IsFree}
use Rattle.c_printed.specs.Settled.{Stands, CalleeStands}
use Rattle.c_printed.specs.State.{Macro, State, becomes, meaning, word_by, tree_by, kind_by_headers, header_state}
use Rattle.shift_helpers.specs.HelperTree.{helper_name}
use Rattle.gen_pack.specs.PackTree.{error_name, buffer, source, size}
use Rattle.gen_pack.specs.Packs.{HasError}
use Rattle.gen_printed.specs.Known.{StandsAlone, KnowsHeaders, KnowsNames, AreFreeWords, AreFree}
use Rattle.gen_unit.specs.Header.{number, header_parts}
use Rattle.gen_unit.specs.Small.{AreSmall}
use Rattle.gen_unit.proofs.Letters.{HasLetters}
use Rattle.gen_unit.proofs.OwnNames.{IsOwn, AreLarge, Knows, GiveTypes, no-macro, name-stands, exact-stands, size-stands, int-stands, four-give}
use Rattle.gen_unit.proofs.Names.{all_macros, guard-is_free}
use Rattle.gen_unit.proofs.HelperNames.{helper-own}
use Rattle.gen_unit.proofs.MessageItems.{HasOwnNames, buffer-own, source-own, size-own}
use Rattle.gen_unit.proofs.NewMacros.{front, knowing, with_includes, error-free, error-large}
use Rattle.gen_unit.proofs.HeaderBehind.{macros-behind, headers-of_header}
use Rattle.gen_unit.proofs.Meaning.{HasItsNames, at-headers}

-- ---- what is known

pub record KnowsSource (s : State) : Type 0 where
  pub knows : Knows s
  pub memset : kind_by_headers (codes "memset") s.headers ≡ Some kind.Memset
  pub error : look_up error_name s.macros ≡ Some (Some (number 22 10 false))

all-stand : (s : State) → Knows s → (ns : List SignalNames) → AllByRecursion (λ (x : SignalNames). IsOwn x.field) ns → AllByRecursion (Stands (becomes s)) (map (λ x. x.field) ns)
all-stand s k [] own = tt
all-stand s k (n ∷ ns) own = (name-stands s k n.field own.0, all-stand s k ns own.1)

-- ---- for pack functions

module _ (s : State) (k : KnowsSource s) where
  pub means-none : (x : List ℕ) → IsOwn x → meaning s x ≡ None
  means-none x o = λ i. tree_by (no-macro x s.macros o.small k.knows.large i) (o.kindless s.headers i)

  pub stands-alone : (x : List ℕ) → IsOwn x → StandsAlone (becomes s) (meaning s) x
  stands-alone x o = record { stands = name-stands s k.knows x o; none = means-none x o }

  all-alone : (xs : List (List ℕ)) → AllByRecursion IsOwn xs → AllByRecursion (StandsAlone (becomes s) (meaning s)) xs
  all-alone [] own = tt
  all-alone (x ∷ xs) own = (stands-alone x own.0, all-alone xs own.1)

  all-none : (xs : List (List ℕ)) → AllByRecursion IsOwn xs → AllByRecursion (λ x. meaning s x ≡ None) xs
  all-none [] own = tt
  all-none (x ∷ xs) own = (means-none x own.0, all-none xs own.1)

  memset-stands : CalleeStands (becomes s) Memset
  memset-stands = λ i. word_by (codes "memset") (no-macro (codes "memset") s.macros refl k.knows.large i) (k.memset i)

  pub knows-headers : KnowsHeaders (becomes s) (meaning s)
  knows-headers = record {
    exact = exact-stands s k.knows;
    int = int-stands s k.knows;
    size_type = size-stands s k.knows;
    memset = memset-stands;
    error = ap (λ o. word_by error_name o (kind_by_headers error_name s.headers)) k.error;
    error_means = ap (λ o. tree_by o (kind_by_headers error_name s.headers)) k.error;
    buffer = stands-alone buffer buffer-own;
    source = name-stands s k.knows source source-own;
    size = stands-alone size size-own;
    helpers = λ kind w iw. name-stands s k.knows (helper_name kind w) (helper-own kind w iw);
  }

  pub knows-names : (n : MessageNames) → HasOwnNames n → KnowsNames (becomes s) (meaning s) n
  knows-names n own = record {
    function = name-stands s k.knows n.pack own.pack;
    tag = name-stands s k.knows n.tag own.tag;
    fields = all-stand s k.knows n.signals own.fields;
    locals = all-alone (local_names n) own.locals;
  }

  pub has-error : (n : MessageNames) → HasOwnNames n → HasError (meaning s) n
  has-error n own = record {
    error = ap (λ o. tree_by o (kind_by_headers error_name s.headers)) k.error;
    of_buffer = means-none buffer buffer-own;
    of_size = means-none size size-own;
    of_locals = all-none (local_names n) own.locals;
  }

-- ---- none of them is a keyword

pub free-words : AreFreeWords
free-words = record { error = error-free; buffer = buffer-own.free; source = source-own.free; size = size-own.free; helpers = λ kind w iw. (helper-own kind w iw).free }

fields-free : (ns : List SignalNames) → AllByRecursion (λ (x : SignalNames). IsOwn x.field) ns → AllByRecursion IsFree (map (λ x. x.field) ns)
fields-free [] own = tt
fields-free (n ∷ ns) own = (own.0.free, fields-free ns own.1)

all-free : (xs : List (List ℕ)) → AllByRecursion IsOwn xs → AllByRecursion IsFree xs
all-free [] own = tt
all-free (x ∷ xs) own = (own.0.free, all-free xs own.1)

pub free-names : (n : MessageNames) → HasOwnNames n → AreFree n
free-names n own = record { function = own.pack.free; tag = own.tag.free; fields = fields-free n.signals own.fields; locals = all-free (local_names n) own.locals }

-- ---- behind the header

all-large : (ms : List Message) (ns : List MessageNames) → AllByRecursion HasLetters ns → AreLarge (all_macros ms ns)
all-large [] ns letters = tt
all-large (m ∷ ms) [] letters = tt
all-large (m ∷ ms) (n ∷ ns) letters = (letters.0.frame_id, (letters.0.length, (letters.0.extended, all-large ms ns letters.1)))

found-error : (g : List ℕ) (ds : List Macro) → bytes_eq g error_name ≡ false → look_up error_name (front g ++ ds) ≡ Some (Some (number 22 10 false))
found-error g ds h = rw (h, same-name error_name) refl

abbrev pub behind_includes : List Message → SymbolTable → State
behind_includes ms t = header_state (header_parts ms t) (knowing (string_h ∷ []))

pub knows-source : (ms : List Message) (t : SymbolTable) → AreSmall ms → HasItsNames t → KnowsSource (behind_includes ms t)
unfolding kind_in
knows-source ms t small names =
    let known : List Header = string_h ∷ [] in
    let file = names.apart.file in
    let macros : (behind_includes ms t).macros ≡ front t.guard ++ all_macros ms t.messages = macros-behind (header_parts ms t) (knowing known) ∙ (at-headers known ms t four-give small names).macros in
    let headers : (behind_includes ms t).headers ≡ with_includes known = headers-of_header known ms t in
    record {
      knows = record {
        large = subst AreLarge (sym macros) (names.letters.guard, (error-large, all-large ms t.messages names.letters.messages));
        types = subst GiveTypes (sym headers) four-give;
      };
      memset = ap (kind_by_headers (codes "memset")) headers;
      error = ap (look_up error_name) macros ∙ found-error t.guard (all_macros ms t.messages) (guard-is_free t file).not_error;
    }
