-- The pair of files of the demo design is accepted.
use Rattle.std.proofs.Common.{◌≡◌, refl, ℕ, ◌+◌, ◌*◌, ◌≤◌, List, length, Some, inl, inr, arith, lit≤}
use Rattle.std.specs.Prelude.{Ok}
use Rattle.netlist_spec.specs.Netlist.{File}
use Rattle.program_spec.specs.Commands.{netlist_limit, other_limit}
use Rattle.guard_spec.specs.SettingsFile.{settings_of_bytes}
use Rattle.guard_spec.specs.Words.{Settings}
use Rattle.program_spec.specs.Walk.{Contents, Verdict, passes, Walk, end, load, test, ComesTo}
use Rattle.program_spec.specs.Steps.{reading, soundness, settings_in, strength, main_of, words_of, smallness}
use Rattle.program_spec.specs.Verdict.{IsAccepted}
use Rattle.program_spec.specs.Demo.{demo_settings, demo_netlist}
use Rattle.demo_laws.specs.DemoFile.{demo_file, demo_model, demo_layout}
use Rattle.demo_laws.specs.DemoLaws.{IsDemoSize}
use Rattle.demo_laws.proofs.Sound.{demo_is_sound}
use Rattle.demo_laws.proofs.Size.{demo_plain}
use Rattle.demo_laws.proofs.Layouts.{demo_is_laid_out, no_layout_fault, hamming_distance}
use Rattle.demo_laws.proofs.Reading.{demo_is_read}
use Rattle.demo_laws.proofs.TextLength.{demo_is_short}

loads : (contents : Contents) (name : List ℕ) (limit : ℕ) (bytes : List ℕ) (next : List ℕ → Walk) (verdict : Verdict) → contents name ≡ Some bytes → length bytes ≤ limit → ComesTo (next bytes) contents verdict → ComesTo (load name limit next) contents verdict
loads contents name limit bytes next verdict held h p = rw held (inr (h, p))

-- the steps behind the reading of the settings
abbrev of_file : Settings → File → Walk
of_file s file =
    test _ (soundness file s.library) (λ sound. test _ (main_of file) (λ m. test _ (words_of m s) (λ l. test _ (smallness file s m l) (λ small. end))))

abbrev of_bytes : Settings → List ℕ → Walk
of_bytes s bytes = test _ (reading bytes) (of_file s)

abbrev of_settings : List ℕ → Settings → Walk
of_settings netlist s = test _ (strength s) (λ strong. load netlist netlist_limit (of_bytes s))

module _ (n : ℕ) (size : IsDemoSize n) where
  file_passes : (contents : Contents) → ComesTo (of_file demo_settings (demo_file n)) contents passes
  file_passes contents =
      inl (tt, demo_is_sound n size, inl (demo_model n, refl, inl (demo_layout n, (no_layout_fault n, demo_is_laid_out n), inl (tt, (4720 * n + 4, demo_plain n size, omega (arith, size)), refl))))

  bytes_pass : (contents : Contents) → ComesTo (of_bytes demo_settings (demo_netlist n)) contents passes
  bytes_pass contents = inl (demo_file n, demo_is_read n size, file_passes contents)

  settings_pass : (contents : Contents) (netlist : List ℕ) → contents netlist ≡ Some (demo_netlist n) → ComesTo (of_settings netlist demo_settings) contents passes
  settings_pass contents netlist held =
      inl (tt, (4, hamming_distance, lit≤ tt), loads contents netlist netlist_limit (demo_netlist n) (of_bytes demo_settings) passes held (let few = demo_is_short n size in omega arith) (bytes_pass contents))

  pub demo_is_accepted : (contents : Contents) (settings netlist text : List ℕ) → contents settings ≡ Some text → length text ≤ other_limit → settings_of_bytes text ≡ Ok demo_settings → contents netlist ≡ Some (demo_netlist n)
      → IsAccepted contents settings netlist
  demo_is_accepted contents settings netlist text held short read netlist_held =
      loads contents settings other_limit text (λ text. test _ (settings_in text) (of_settings netlist)) passes held short
      (inl (demo_settings, read, settings_pass contents netlist netlist_held))
