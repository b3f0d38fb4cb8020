-- What a settings file stands for: a table over the tree that a TOML document is.
use Rattle.std.specs.Prelude.{ℕ, ◌^◌, ◌-◌, ◌≤◌, pos, IfSome, ⊤, ◌&&◌, List, [], ◌∷◌, ◌++◌, length, map, find, not, codes, Option, Some, None, Result, Ok, Err, nat_le, ◌==◌, if◌then◌else◌, option_map, ok_or, slice_index_or}
use Rattle.std.specs.Bool.{then_some}
use Rattle.std.specs.Cmp.Lexicographic.{slice_cmp}
use Rattle.std.specs.List.{list_all, AllByRecursion}
use Rattle.std.specs.List.Sorted.{IsStrictlySortedBy}
use Rattle.std.specs.Ordering.{nat_cmp}
use Rattle.std.specs.Str.{is_utf8}
use Rattle.toml.specs.Data.{Data, string, integer, array, table, Items, no_items, item, Members, no_members, member, get_member}
use Rattle.toml.specs.Parse.{parse_document}
use Rattle.netlist_spec.specs.Digits.{each_gives, bits_of_text}
use Rattle.netlist_spec.specs.Netlist.{Name, IsName, same_name, stands_in}
use Rattle.netlist_spec.specs.Covers.{Linear, NamedTable, NamedLinear, IsLibrary, number_of}
use Rattle.netlist_spec.specs.SourceRun.{Bits}
use Rattle.guard_spec.specs.Codes.{Code, IsCode, data_places, Mode, detect, correct}
use Rattle.guard_spec.specs.Words.{Settings}

-- A key is written as a path, such as `sbox.present.values`.
pub data SettingsFault : Type 0 where
  not_toml : SettingsFault
  missing : (key : List ℕ) → SettingsFault
  bad_value : (key : List ℕ) → SettingsFault
  unknown_key : (key : List ℕ) → SettingsFault
  bad_shape : SettingsFault

infixl 10 ◌>>=◌
abbrev pub ◌>>=◌ : {A B : Type 0} → Result A SettingsFault → (A → Result B SettingsFault) → Result B SettingsFault
(Ok x) >>= f = f x
(Err e) >>= f = Err e

abbrev pub item_list : Items → List Data
item_list no_items = []
item_list (item d ds) = d ∷ item_list ds

-- the members of a table, in byte order of their keys
abbrev pub member_list : Members → List (List ℕ × Data)
member_list no_members = []
member_list (member k d ms) = (k, d) ∷ member_list ms

-- the first fault of the elements, or what they all give
abbrev pub all_of : {A B : Type 0} → (A → Result B SettingsFault) → List A → Result (List B) SettingsFault
all_of f [] = Ok []
all_of f (x ∷ xs) = do
  y ← f x
  ys ← all_of f xs
  Ok (y ∷ ys)

-- ---- the values

abbrev pub as_text : Data → Option (List ℕ)
as_text (string s) = Some s
as_text _ = None

abbrev pub as_items : Data → Option (List Data)
as_items (array ds) = Some (item_list ds)
as_items _ = None

abbrev pub as_members : Data → Option Members
as_members (table ms) = Some ms
as_members _ = None

abbrev pub then_gives : {A B : Type 0} → Option A → (A → Option B) → Option B
then_gives None f = None
then_gives (Some x) f = f x

-- a whole number between these two
abbrev pub whole_between : ℕ → ℕ → Data → Option ℕ
whole_between low high (integer (pos n)) = then_some (nat_le low n && nat_le n high) n
whole_between low high _ = None

-- an array of texts
abbrev pub texts_of : Data → Option (List (List ℕ))
texts_of d = then_gives (as_items d) (each_gives as_text)

-- `detect` or `correct`
abbrev pub mode_named : List ℕ → Option Mode
mode_named text =
    if same_name text (codes "detect") then Some detect
    else if same_name text (codes "correct") then Some correct
    else None

abbrev pub mode_of : Data → Option Mode
mode_of d = then_gives (as_text d) mode_named

-- texts of `0` and `1` alone, all of one length, within these numbers of texts and of characters
abbrev pub bit_rows : ℕ → ℕ → List (List ℕ) → Option (List Bits)
bit_rows most_rows most_columns texts =
    let width = length (slice_index_or texts 0 []) in
    if nat_le 1 (length texts) && nat_le (length texts) most_rows && nat_le 1 width && nat_le width most_columns
    && list_all (λ text. length text == width) texts
    then each_gives bits_of_text texts
    else None

-- Text i is row i, and character j is column j.
abbrev pub code_of : List Bits → Code
code_of rows = record { columns = length (slice_index_or rows 0 []); rows = rows }

-- a text of 1 to 255 bytes
abbrev pub name_of : Data → Option Name
name_of d = then_gives (as_text d) (λ text. then_some (nat_le 1 (length text) && nat_le (length text) 255) text)

-- an array of 1 to k names
abbrev pub word_of : ℕ → Data → Option (List Name)
word_of k d =
    then_gives (as_items d) (λ ds. if nat_le 1 (length ds) && nat_le (length ds) k then each_gives name_of ds else None)

-- an array of such arrays
abbrev pub words_of : ℕ → Data → Option (List (List Name))
words_of k d = then_gives (as_items d) (each_gives (word_of k))

-- exactly 2^inputs whole numbers from 0 to 2^outputs - 1
abbrev pub values_of : ℕ → ℕ → Data → Option (List ℕ)
values_of ins outs d =
    then_gives (as_items d) (λ ds. if length ds == 2 ^ ins then each_gives (whole_between 0 (2 ^ outs - 1)) ds else None)

-- ---- the keys

-- a key that is needed
abbrev pub needed : {A : Type 0} → List ℕ → List ℕ → (Data → Option A) → Members → Result A SettingsFault
needed path key f ms = do
  d ← ok_or (get_member key ms) (missing path)
  ok_or (f d) (bad_value path)

-- a key that is not needed
abbrev pub optional : {A : Type 0} → List ℕ → List ℕ → (Data → Option A) → Members → Result (Option A) SettingsFault
optional {A = A} path key f ms = found (get_member key ms)
  where
    found : Option Data → Result (Option A) SettingsFault
    found None = Ok None
    found (Some d) = ok_or (option_map (λ x. Some x) (f d)) (bad_value path)

-- no other key than these; the first one, in byte order, is at fault
abbrev pub no_other_key : (List ℕ → List ℕ) → List (List ℕ) → Members → Result ⊤ SettingsFault
no_other_key path keys ms = found (find (λ (m : List ℕ × Data). not (stands_in m.0 keys)) (member_list ms))
  where
    found : Option (List ℕ × Data) → Result ⊤ SettingsFault
    found None = Ok tt
    found (Some m) = Err (unknown_key (path m.0))

abbrev pub dotted : List ℕ → List ℕ → List ℕ
dotted a b = a ++ 46 ∷ b

-- ---- the library

-- An entry is a table, and its name is 1 to 255 bytes long.
abbrev pub entry_members : List ℕ → List ℕ → Data → Result Members SettingsFault
entry_members path name d =
    if nat_le 1 (length name) && nat_le (length name) 255 then ok_or (as_members d) (bad_value path) else Err (bad_value path)

abbrev pub sbox_entry : List ℕ × Data → Result NamedTable SettingsFault
sbox_entry e = do
  ms ← entry_members (dotted (codes "sbox") e.0) e.0 e.1
  ins ← needed (dotted (dotted (codes "sbox") e.0) (codes "inputs")) (codes "inputs") (whole_between 1 8) ms
  outs ← needed (dotted (dotted (codes "sbox") e.0) (codes "outputs")) (codes "outputs") (whole_between 1 8) ms
  values ← needed (dotted (dotted (codes "sbox") e.0) (codes "values")) (codes "values") (values_of ins outs) ms
  _ ← no_other_key (dotted (dotted (codes "sbox") e.0)) (codes "inputs" ∷ codes "outputs" ∷ codes "values" ∷ []) ms
  Ok (record { name = e.0; table = record { ins = ins; outs = outs; rows = values } })

-- Text i is row i; character j stands for input j.
abbrev pub linear_of : List Bits → Linear
linear_of rows = record { rows = map number_of rows; width = length (slice_index_or rows 0 []) }

-- an array of 1 to 128 texts, all of one length from 1 to 128, of `0` and `1` alone
abbrev pub layer_of : Data → Option Linear
layer_of d = option_map linear_of (then_gives (texts_of d) (bit_rows 128 128))

-- An entry whose name stands in `sbox` is at fault.
abbrev pub linear_entry : List Name → List ℕ × Data → Result NamedLinear SettingsFault
linear_entry taken e =
    if stands_in e.0 taken then Err (bad_value (dotted (codes "linear") e.0)) else go
  where
    go : Result NamedLinear SettingsFault
    go = do
      ms ← entry_members (dotted (codes "linear") e.0) e.0 e.1
      layer ← needed (dotted (dotted (codes "linear") e.0) (codes "rows")) (codes "rows") layer_of ms
      _ ← no_other_key (dotted (dotted (codes "linear") e.0)) (codes "rows" ∷ []) ms
      Ok (record { name = e.0; layer = layer })

-- an absent table has no entries
abbrev pub entries_of : Option Members → List (List ℕ × Data)
entries_of None = []
entries_of (Some ms) = member_list ms

-- ---- the document

abbrev pub known_keys : List (List ℕ)
known_keys =
    codes "mode" ∷ codes "bound" ∷ codes "check" ∷ codes "state_words" ∷ codes "output_words" ∷ codes "sbox" ∷ codes "linear" ∷ []

-- The settings, or the first fault in the order of the keys. `check` is an array of texts, and has a bad shape
-- unless there are 1 to 12 of them, all of one length from 1 to 16, of `0` and `1` alone.
abbrev pub settings_of : Members → Result Settings SettingsFault
settings_of doc = do
  mode ← needed (codes "mode") (codes "mode") mode_of doc
  bound ← needed (codes "bound") (codes "bound") (whole_between 1 16) doc
  texts ← needed (codes "check") (codes "check") texts_of doc
  rows ← ok_or (bit_rows 12 16 texts) bad_shape
  states ← optional (codes "state_words") (codes "state_words") (words_of (length rows)) doc
  outs ← optional (codes "output_words") (codes "output_words") (words_of (length rows)) doc
  sboxes ← optional (codes "sbox") (codes "sbox") as_members doc
  tables ← all_of sbox_entry (entries_of sboxes)
  layers ← optional (codes "linear") (codes "linear") as_members doc
  linears ← all_of (linear_entry (map (λ t. t.name) tables)) (entries_of layers)
  _ ← no_other_key (λ key. key) known_keys doc
  Ok (record { mode = mode; bound = bound; code = code_of rows; state_words = states; output_words = outs; library = record { tables = tables; linears = linears } })

-- A text that is no TOML document is refused as such, and so are bytes that are no text.
abbrev pub of_document : Option Members → Result Settings SettingsFault
of_document None = Err not_toml
of_document (Some doc) = settings_of doc

unfoldable pub settings_of_bytes : List ℕ → Result Settings SettingsFault
settings_of_bytes bytes = if is_utf8 bytes then of_document (parse_document bytes) else Err not_toml

-- ---- what holds of all settings

-- Each word has 1 to k names.
abbrev pub AreWordNames : ℕ → List (List Name) → Type 0
AreWordNames k words = AllByRecursion (λ w. (1 ≤ length w) × (length w ≤ k) × AllByRecursion IsName w) words

-- what holds of all settings that are read: among the rest, the tables and the layers of the library stand in byte order
-- of their names
pub record IsSettings (s : Settings) : Type 0 where
  pub bound : (1 ≤ s.bound) × (s.bound ≤ 16)
  pub code : IsCode s.code
  pub state_words : IfSome s.state_words (AreWordNames (data_places s.code))
  pub output_words : IfSome s.output_words (AreWordNames (data_places s.code))
  pub library : IsLibrary s.library
  pub table_order : IsStrictlySortedBy (slice_cmp nat_cmp) (map (λ t. t.name) s.library.tables)
  pub linear_order : IsStrictlySortedBy (slice_cmp nat_cmp) (map (λ l. l.name) s.library.linears)
