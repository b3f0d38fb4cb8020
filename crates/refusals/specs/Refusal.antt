-- What each refusal stands for.
use Rattle.netlist_spec.specs.ReadFaults.{unknown_statement, bad_row, mixed_cover, bad_latch, no_model, long_name, too_many, twice_model, bad_subckt, after_end, word_count}
use Rattle.netlist_spec.specs.SoundFaults.{twice, no_such_model, bad_port, recursion, latch_inside, too_deep, undriven, bad_clocking, loop, reserved, too_large}
use Rattle.netlist_spec.specs.Ordered.{unordered, has_subckt}
use Rattle.stimulus_spec.specs.Stimulus.{bad_script, no_such_cell, more_than_sixteen}
use Rattle.guard_spec.specs.Words.{no_such_net, in_two_words, not_in_a_word}
use Rattle.guard_spec.specs.SettingsFile.{not_toml, missing, bad_value, unknown_key, bad_shape}
use Rattle.program_spec.specs.Refusals.{Refusal, file_too_long, unreadable, bad_settings, too_small, unsound, bad_layout, guard_too_large, out_of_order, bad_stimulus, bad_script_line}
use Rattle.imp_text.specs.Quantities.{quantity_of}
use Rattle.refusals.specs.declared.refusal.Refusal.{Refusal as Told}
use Rattle.refusals.specs.declared.refusal.Refusal.TheVariants.{FileTooLong, UnknownStatement, BadRow, MixedCover, BadLatch, NoModel, LongName, TooMany, TwiceModel, BadSubckt, AfterEnd, WordCount, NotToml, Missing, BadValue, UnknownKey, TooSmall, BadShape, Twice, NoSuchModel, BadPort, Recursion, LatchInside, Depth, Undriven, Clocking, Loop, Reserved, TooLarge, NoSuchNet, InTwoWords, NotInAWord, GuardTooLarge, Unordered, HasSubckt, BadStimulus, BadScript, NoSuchCell, MoreThanSixteen}

-- the refusal as plain data
abbrev pub refusal_of : Told → Refusal
refusal_of (FileTooLong name) = file_too_long name
refusal_of (UnknownStatement line word) = unreadable (unknown_statement line word)
refusal_of (BadRow line) = unreadable (bad_row line)
refusal_of (MixedCover line) = unreadable (mixed_cover line)
refusal_of (BadLatch line) = unreadable (bad_latch line)
refusal_of (NoModel line) = unreadable (no_model line)
refusal_of (LongName line) = unreadable (long_name line)
refusal_of (TooMany line what) = unreadable (too_many line (quantity_of what))
refusal_of (TwiceModel line name) = unreadable (twice_model line name)
refusal_of (BadSubckt line) = unreadable (bad_subckt line)
refusal_of (AfterEnd line) = unreadable (after_end line)
refusal_of (WordCount line) = unreadable (word_count line)
refusal_of NotToml = bad_settings not_toml
refusal_of (Missing key) = bad_settings (missing key)
refusal_of (BadValue key) = bad_settings (bad_value key)
refusal_of (UnknownKey key) = bad_settings (unknown_key key)
refusal_of (TooSmall d need) = too_small d need
refusal_of BadShape = bad_settings bad_shape
refusal_of (Twice net) = unsound (twice net)
refusal_of (NoSuchModel name) = unsound (no_such_model name)
refusal_of (BadPort model formal) = unsound (bad_port model formal)
refusal_of (Recursion model) = unsound (recursion model)
refusal_of (LatchInside model) = unsound (latch_inside model)
refusal_of (Depth model) = unsound (too_deep model)
refusal_of (Undriven net) = unsound (undriven net)
refusal_of (Clocking net) = unsound (bad_clocking net)
refusal_of (Loop nets) = unsound (loop nets)
refusal_of (Reserved name) = unsound (reserved name)
refusal_of (TooLarge what) = unsound (too_large (quantity_of what))
refusal_of (NoSuchNet name) = bad_layout (no_such_net name)
refusal_of (InTwoWords name) = bad_layout (in_two_words name)
refusal_of (NotInAWord name) = bad_layout (not_in_a_word name)
refusal_of GuardTooLarge = guard_too_large
refusal_of (Unordered line) = out_of_order (unordered line)
refusal_of (HasSubckt line) = out_of_order (has_subckt line)
refusal_of (BadStimulus line) = bad_stimulus line
refusal_of (BadScript line) = bad_script_line (bad_script line)
refusal_of (NoSuchCell line) = bad_script_line (no_such_cell line)
refusal_of (MoreThanSixteen line) = bad_script_line (more_than_sixteen line)
