-- What holds of all settings holds of small ones.
use Rattle.std.proofs.Common.{refl, lit<, lit≤}
use Rattle.std.specs.List.Sorted.{IsStrictlySortedBy}
use Rattle.netlist_spec.specs.Covers.{IsLibrary}
use Rattle.guard_spec.specs.SettingsFile.{IsSettings}
use Rattle.spec_examples.specs.Examples.{cipher_library, settings_read}

pub cipher_is_library : IsLibrary cipher_library
cipher_is_library =
    record {
      distinct = refl;
      names = ((lit< tt, lit≤ tt), ((lit< tt, lit≤ tt), tt));
      tables = (
        record {
          ins = (lit≤ tt, lit≤ tt);
          outs = (lit≤ tt, lit≤ tt);
          count = refl;
          each = (lit< tt, (lit< tt, (lit< tt, (lit< tt, (lit< tt, (lit< tt, (lit< tt, (lit< tt, (lit< tt, (lit< tt, (lit< tt, (lit< tt, (lit< tt, (lit< tt, (lit< tt, (lit< tt, tt))))))))))))))));
        },
        tt,
      );
      linears = (record { rows = (lit≤ tt, lit≤ tt); width = (lit≤ tt, lit≤ tt); each = (lit< tt, (lit< tt, tt)) }, tt);
    }

pub settings_are_settings : IsSettings settings_read
unfolding IsStrictlySortedBy
settings_are_settings =
    record {
      bound = (lit≤ tt, lit≤ tt);
      code = record { rows = (lit≤ tt, lit≤ tt); columns = (lit≤ tt, lit≤ tt); full = (refl, (refl, (refl, (refl, tt)))) };
      state_words = tt;
      output_words = tt;
      library = record {
        distinct = refl;
        names = ((lit< tt, lit≤ tt), ((lit< tt, lit≤ tt), tt));
        tables = (record { ins = (lit≤ tt, lit≤ tt); outs = (lit≤ tt, lit≤ tt); count = refl; each = (lit< tt, (lit< tt, tt)) }, tt);
        linears = (record { rows = (lit≤ tt, lit≤ tt); width = (lit≤ tt, lit≤ tt); each = (lit< tt, (lit< tt, tt)) }, tt);
      };
      table_order = (tt, tt);
      linear_order = (tt, tt);
    }
