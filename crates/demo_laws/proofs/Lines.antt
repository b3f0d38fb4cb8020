-- The lines of the netlist of the demo design, part by part, and what holds of each.
use Rattle.std.proofs.Common.{◌≡◌, refl, ◌∙◌, ap, ℕ, zero, suc, ◌+◌, ◌*◌, ◌<◌, ◌≤◌, List, [], ◌∷◌, ◌++◌, map, codes, length, Bool, true, false, ◌||◌, Option, Some, None, append_assoc, length-append, arith, lit<, lit≤}
use Rattle.std.specs.Prelude.{◌==◌}
use Rattle.std.specs.Fmt.{digits}
use Rattle.std.specs.List.{AllByRecursion, flat_map, list_any, range_with_len}
use Rattle.std.proofs.lemmas.Fmt.{length-decimal-le}
use Rattle.netlist_spec.specs.Netlist.{IsName, plain, is_word_byte}
use Rattle.netlist_spec.specs.Statements.{Said, model_line, inputs_line, outputs_line, row_line, latch_line, subckt_line, end_line, spelling, IsStatement}
use Rattle.netlist_spec.specs.Reads.{inputs_in, outputs_in, clocks_in}
use Rattle.netlist_spec.specs.WrittenLines.{IsPlainWord, HasPlainNames}
use Rattle.program_spec.specs.Demo.{numbered, state_bits, moved_to, box_binds, choice_lines, copy_lines, demo_lines}
use Rattle.demo_laws.specs.DemoFile.{loaded, shown, stored, next, load, boxes, input_names, output_names}
use Rattle.demo_laws.specs.DemoLaws.{IsDemoSize}
use Rattle.demo_laws.proofs.Moves.{moved_within}
use Rattle.demo_laws.proofs.Ranges.{each_mapped, length_mapped, all_flat}
use Rattle.demo_laws.proofs.PlainNames.{numbered_plain, numbered_name}
use Rattle.netlist_spec.proofs.FollowingLines.{IsInModel}
use Rattle.netlist_spec.proofs.OneValue.{All_append}

-- ---- the parts

abbrev pub latch_said : ℕ → Said
latch_said i = latch_line (next i) (stored i) plain (Some 0)

abbrev pub box_said : ℕ → Said
box_said j = subckt_line (codes "present") (box_binds j)

abbrev pub choices : ℕ → List ℕ → List Said
choices n is = flat_map (choice_lines n) is

abbrev pub copies : List ℕ → List Said
copies is = flat_map copy_lines is

-- the lines behind the ports
abbrev pub body : ℕ → List Said
body n = map latch_said (state_bits n) ++ (map box_said (boxes n) ++ (choices n (state_bits n) ++ (copies (state_bits n) ++ end_line ∷ [])))

abbrev pub inner_lines : ℕ → List Said
inner_lines n = inputs_line (input_names n) ∷ outputs_line (output_names n) ∷ body n

pub lines_are : (n : ℕ) → demo_lines n ≡ model_line (codes "demo") ∷ inner_lines n
lines_are n =
    let latches : List Said = map latch_said (state_bits n) in
    let placed_boxes : List Said = map box_said (boxes n) in
    ap (λ l. model_line (codes "demo") ∷ inputs_line (input_names n) ∷ outputs_line (output_names n) ∷ l)
    (append_assoc ((latches ++ placed_boxes) ++ choices n (state_bits n)) (copies (state_bits n)) (end_line ∷ [])
    ∙ append_assoc (latches ++ placed_boxes) (choices n (state_bits n)) (copies (state_bits n) ++ end_line ∷ [])
    ∙ append_assoc latches placed_boxes (choices n (state_bits n) ++ (copies (state_bits n) ++ end_line ∷ [])))

pub each_range : (P : ℕ → Type 0) (a n : ℕ) → ((i : ℕ) → a ≤ i → i < a + n → P i) → AllByRecursion P (range_with_len a n)
each_range P a zero h = tt
each_range P a (suc n) h = (h a (omega arith) (omega arith), each_range P (a + 1) n (λ i low high. h i (omega arith) (omega arith)))

each_line : (n : ℕ) (P : Said → Type 0) → ((i : ℕ) → i < 4 * n → P (latch_said i)) → ((j : ℕ) → j < n → P (box_said j)) → ((i : ℕ) → i < 4 * n → AllByRecursion P (choice_lines n i)) → ((i : ℕ) → i < 4 * n → AllByRecursion P (copy_lines i))
    → P end_line → AllByRecursion P (body n)
each_line n P latches placed_boxes chosen copied ends =
    All_append P (map latch_said (state_bits n)) (map box_said (boxes n) ++ (choices n (state_bits n) ++ (copies (state_bits n) ++ end_line ∷ [])))
    (each_mapped latch_said P 0 (4 * n) (λ i low high. latches i (omega arith)))
    (All_append P (map box_said (boxes n)) (choices n (state_bits n) ++ (copies (state_bits n) ++ end_line ∷ []))
    (each_mapped box_said P 0 n (λ j low high. placed_boxes j (omega arith)))
    (All_append P (choices n (state_bits n)) (copies (state_bits n) ++ end_line ∷ [])
    (all_flat P (choice_lines n) (state_bits n) (each_range (λ i. AllByRecursion P (choice_lines n i)) 0 (4 * n) (λ i low high. chosen i (omega arith))))
    (All_append P (copies (state_bits n)) (end_line ∷ [])
    (all_flat P copy_lines (state_bits n) (each_range (λ i. AllByRecursion P (copy_lines i)) 0 (4 * n) (λ i low high. copied i (omega arith))))
    (ends, tt))))

-- ---- what holds of each line

-- at most so many words, none of them long
pub record IsShort (said : Said) : Type 0 where
  pub few : length (spelling said) ≤ 258
  pub words : AllByRecursion (λ w. length w ≤ 16) (spelling said)

pub record IsGood (said : Said) : Type 0 where
  pub plain_names : HasPlainNames said
  pub statement : IsStatement said
  pub short : IsShort said

-- it declares no ports
pub record IsInner (said : Said) : Type 0 where
  pub good : IsGood said
  pub in_model : IsInModel said
  pub no_inputs : (k : ℕ) → inputs_in (k, said) ≡ []
  pub no_outputs : (k : ℕ) → outputs_in (k, said) ≡ []
  pub no_clocks : (k : ℕ) → clocks_in (k, said) ≡ []

numbered_short : (letter i : ℕ) → i < 256 → length (numbered letter i) ≤ 4
numbered_short letter i h = let short = length-decimal-le 3 i (lit< tt) (omega arith) (omega arith) in omega arith

name_short : (letter i : ℕ) → i < 256 → length (numbered letter i) ≤ 16
name_short letter i h = let short = numbered_short letter i h in omega arith

load_plain : IsPlainWord load
load_plain = record { is_word = refl; is_plain = refl; is_closed = refl }

load_name : IsName load
load_name = (lit< tt, lit≤ tt)

present_plain : IsPlainWord (codes "present")
present_plain = record { is_word = refl; is_plain = refl; is_closed = refl }

present_name : IsName (codes "present")
present_name = (lit< tt, lit≤ tt)

module _ (n : ℕ) (size : IsDemoSize n) where
  small : (i : ℕ) → i < 4 * n → i < 256
  small i h = omega (arith, size)

  latch_inner : (i : ℕ) → i < 4 * n → IsInner (latch_said i)
  latch_inner i h =
      let s = small i h in
      record {
        good = record {
          plain_names = (numbered_plain 110 i refl s, numbered_plain 115 i refl s, tt, lit< tt);
          statement = (numbered_name 110 i s, numbered_name 115 i s, tt, lit< tt);
          short = record { few = lit≤ tt; words = (lit≤ tt, (name_short 110 i s, (name_short 115 i s, (lit≤ tt, tt)))) };
        };
        in_model = tt;
        no_inputs = λ k. refl;
        no_outputs = λ k. refl;
        no_clocks = λ k. refl;
      }

  -- ---- boxes

  bind_plain : (port letter i : ℕ) → port < 256 → i < 256 → (kind : ℕ) → is_word_byte kind ≡ true → is_word_byte letter ≡ true → IsPlainWord (numbered kind port) × IsPlainWord (numbered letter i)
  bind_plain port letter i hp h kind k l = (numbered_plain kind port k hp, numbered_plain letter i l h)

  bind_short : (kind port letter i : ℕ) → port < 256 → i < 256 → length (numbered kind port ++ 61 ∷ numbered letter i) ≤ 16
  bind_short kind port letter i hp h =
      let a = numbered_short kind port hp in
      let b = numbered_short letter i h in
      let c : length (numbered kind port ++ 61 ∷ numbered letter i) ≡ length (numbered kind port) + length (61 ∷ numbered letter i) = length-append (numbered kind port) (61 ∷ numbered letter i) in
      let d : length (61 ∷ numbered letter i) ≡ suc (length (numbered letter i)) = refl in
      omega arith

  no_equals : (port : ℕ) → port < 4 → (kind : ℕ) → (kind == 61) ≡ false → list_any (λ c. c == 61) (numbered kind port) ≡ false
  unfolding digits
  no_equals zero h kind k = ap (λ b. b || false) k
  no_equals (suc zero) h kind k = ap (λ b. b || false) k
  no_equals (suc (suc zero)) h kind k = ap (λ b. b || false) k
  no_equals (suc (suc (suc zero))) h kind k = ap (λ b. b || false) k
  no_equals (suc (suc (suc (suc p)))) h kind k = absurd (omega arith)

  box_inner : (j : ℕ) → j < n → IsInner (box_said j)
  box_inner j h =
      let a : 4 * j + 0 < 256 = small (4 * j + 0) (omega arith) in
      let b : 4 * j + 1 < 256 = small (4 * j + 1) (omega arith) in
      let c : 4 * j + 2 < 256 = small (4 * j + 2) (omega arith) in
      let d : 4 * j + 3 < 256 = small (4 * j + 3) (omega arith) in
      let plain_bind : (port letter i kind : ℕ) → port < 4 → i < 256 → is_word_byte kind ≡ true → is_word_byte letter ≡ true → IsPlainWord (numbered kind port) × IsPlainWord (numbered letter i)
      = λ port letter i kind hp hi k l. bind_plain port letter i (omega arith) hi kind k l in
      let name_bind : (port letter i kind : ℕ) → port < 4 → i < 256 → (kind == 61) ≡ false → IsName (numbered kind port) × (list_any (λ c. c == 61) (numbered kind port) ≡ false) × IsName (numbered letter i)
      = λ port letter i kind hp hi k. (numbered_name kind port (omega arith), no_equals port hp kind k, numbered_name letter i hi) in
      let short_bind : (port letter i kind : ℕ) → port < 4 → i < 256 → length (numbered kind port ++ 61 ∷ numbered letter i) ≤ 16
      = λ port letter i kind hp hi. bind_short kind port letter i (omega arith) hi in
      record {
        good = record {
          plain_names = (
            present_plain,
            (
              plain_bind 0 115 (4 * j + 0) 105 (lit< tt) a refl refl,
              (
                plain_bind 1 115 (4 * j + 1) 105 (lit< tt) b refl refl,
                (
                  plain_bind 2 115 (4 * j + 2) 105 (lit< tt) c refl refl,
                  (
                    plain_bind 3 115 (4 * j + 3) 105 (lit< tt) d refl refl,
                    (plain_bind 0 98 (4 * j + 0) 111 (lit< tt) a refl refl, (plain_bind 1 98 (4 * j + 1) 111 (lit< tt) b refl refl, (plain_bind 2 98 (4 * j + 2) 111 (lit< tt) c refl refl, (plain_bind 3 98 (4 * j + 3) 111 (lit< tt) d refl refl, tt)))),
                  ),
                ),
              ),
            ),
          );
          statement = (
            present_name,
            (
              name_bind 0 115 (4 * j + 0) 105 (lit< tt) a refl,
              (
                name_bind 1 115 (4 * j + 1) 105 (lit< tt) b refl,
                (
                  name_bind 2 115 (4 * j + 2) 105 (lit< tt) c refl,
                  (
                    name_bind 3 115 (4 * j + 3) 105 (lit< tt) d refl,
                    (name_bind 0 98 (4 * j + 0) 111 (lit< tt) a refl, (name_bind 1 98 (4 * j + 1) 111 (lit< tt) b refl, (name_bind 2 98 (4 * j + 2) 111 (lit< tt) c refl, (name_bind 3 98 (4 * j + 3) 111 (lit< tt) d refl, tt)))),
                  ),
                ),
              ),
            ),
          );
          short = record {
            few = lit≤ tt;
            words = (
              lit≤ tt,
              (
                lit≤ tt,
                (
                  short_bind 0 115 (4 * j + 0) 105 (lit< tt) a,
                  (
                    short_bind 1 115 (4 * j + 1) 105 (lit< tt) b,
                    (
                      short_bind 2 115 (4 * j + 2) 105 (lit< tt) c,
                      (
                        short_bind 3 115 (4 * j + 3) 105 (lit< tt) d,
                        (short_bind 0 98 (4 * j + 0) 111 (lit< tt) a, (short_bind 1 98 (4 * j + 1) 111 (lit< tt) b, (short_bind 2 98 (4 * j + 2) 111 (lit< tt) c, (short_bind 3 98 (4 * j + 3) 111 (lit< tt) d, tt)))),
                      ),
                    ),
                  ),
                ),
              ),
            );
          };
        };
        in_model = tt;
        no_inputs = λ k. refl;
        no_outputs = λ k. refl;
        no_clocks = λ k. refl;
      }

  -- ---- choices and copies

  choice_inner : (i : ℕ) → i < 4 * n → AllByRecursion IsInner (choice_lines n i)
  choice_inner i h =
      let s = small i h in
      let e = small (moved_to n i) (moved_within n size.0 i h) in (
        record {
          good = record {
            plain_names = ((load_plain, (numbered_plain 112 (moved_to n i) refl e, (numbered_plain 98 i refl s, tt))), numbered_plain 110 (moved_to n i) refl e);
            statement = ((load_name, (numbered_name 112 (moved_to n i) e, (numbered_name 98 i s, tt))), numbered_name 110 (moved_to n i) e);
            short = record { few = lit≤ tt; words = (lit≤ tt, (lit≤ tt, (name_short 112 (moved_to n i) e, (name_short 98 i s, (name_short 110 (moved_to n i) e, tt))))) };
          };
          in_model = tt;
          no_inputs = λ k. refl;
          no_outputs = λ k. refl;
          no_clocks = λ k. refl;
        },
        (row_inner (Some true ∷ Some true ∷ None ∷ []) refl, (row_inner (Some false ∷ None ∷ Some true ∷ []) refl, tt)),
      )
    where
      row_inner : (cells : List (Option Bool)) → length cells ≡ 3 → IsInner (row_line cells true)
      row_inner (a ∷ b ∷ c ∷ []) e =
          record {
            good = record { plain_names = tt; statement = tt; short = record { few = lit≤ tt; words = (lit≤ tt, (lit≤ tt, tt)) } };
            in_model = tt;
            no_inputs = λ k. refl;
            no_outputs = λ k. refl;
            no_clocks = λ k. refl;
          }
      row_inner [] e = cc e
      row_inner (a ∷ []) e = absurd (omega arith)
      row_inner (a ∷ b ∷ []) e = absurd (omega arith)
      row_inner (a ∷ b ∷ c ∷ d ∷ cells) e = absurd (omega arith)

  copy_inner : (i : ℕ) → i < 4 * n → AllByRecursion IsInner (copy_lines i)
  copy_inner i h =
      let s = small i h in (
        record {
          good = record {
            plain_names = ((numbered_plain 115 i refl s, tt), numbered_plain 99 i refl s);
            statement = ((numbered_name 115 i s, tt), numbered_name 99 i s);
            short = record { few = lit≤ tt; words = (lit≤ tt, (name_short 115 i s, (name_short 99 i s, tt))) };
          };
          in_model = tt;
          no_inputs = λ k. refl;
          no_outputs = λ k. refl;
          no_clocks = λ k. refl;
        },
        (
          record {
            good = record { plain_names = tt; statement = tt; short = record { few = lit≤ tt; words = (lit≤ tt, (lit≤ tt, tt)) } };
            in_model = tt;
            no_inputs = λ k. refl;
            no_outputs = λ k. refl;
            no_clocks = λ k. refl;
          },
          tt,
        ),
      )

  end_inner : IsInner end_line
  end_inner =
      record {
        good = record { plain_names = tt; statement = tt; short = record { few = lit≤ tt; words = (lit≤ tt, tt) } };
        in_model = tt;
        no_inputs = λ k. refl;
        no_outputs = λ k. refl;
        no_clocks = λ k. refl;
      }

  pub body_inner : AllByRecursion IsInner (body n)
  body_inner = each_line n IsInner latch_inner box_inner choice_inner copy_inner end_inner

  -- ---- the port lines

  module _ (letter : ℕ) (plain_letter : is_word_byte letter ≡ true) where
    names_plain : AllByRecursion IsPlainWord (map (numbered letter) (state_bits n))
    names_plain = each_mapped (numbered letter) IsPlainWord 0 (4 * n) (λ i low high. numbered_plain letter i plain_letter (small i (omega arith)))

    names_named : AllByRecursion IsName (map (numbered letter) (state_bits n))
    names_named = each_mapped (numbered letter) IsName 0 (4 * n) (λ i low high. numbered_name letter i (small i (omega arith)))

    names_short : AllByRecursion (λ w. length w ≤ 16) (map (numbered letter) (state_bits n))
    names_short = each_mapped (numbered letter) (λ w. length w ≤ 16) 0 (4 * n) (λ i low high. name_short letter i (small i (omega arith)))

  pub inputs_good : IsGood (inputs_line (input_names n))
  inputs_good =
      let count = length_mapped loaded 0 (4 * n) in
      record {
        plain_names = (load_plain, names_plain 112 refl);
        statement = (load_name, names_named 112 refl);
        short = record { few = omega (arith, size); words = (lit≤ tt, (lit≤ tt, names_short 112 refl)) };
      }

  pub outputs_good : IsGood (outputs_line (output_names n))
  outputs_good =
      let count = length_mapped shown 0 (4 * n) in
      record {
        plain_names = names_plain 99 refl;
        statement = names_named 99 refl;
        short = record { few = omega (arith, size); words = (lit≤ tt, names_short 99 refl) };
      }

  inner_good : (ls : List Said) → AllByRecursion IsInner ls → AllByRecursion IsGood ls
  inner_good [] h = tt
  inner_good (l ∷ ls) h = (h.0.good, inner_good ls h.1)

  pub model_good : IsGood (model_line (codes "demo"))
  model_good =
      record {
        plain_names = record { is_word = refl; is_plain = refl; is_closed = refl };
        statement = (lit< tt, lit≤ tt);
        short = record { few = lit≤ tt; words = (lit≤ tt, (lit≤ tt, tt)) };
      }

  pub all_good : AllByRecursion IsGood (model_line (codes "demo") ∷ inner_lines n)
  all_good = (model_good, (inputs_good, (outputs_good, inner_good (body n) body_inner)))
