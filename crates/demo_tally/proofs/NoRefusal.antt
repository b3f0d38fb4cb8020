-- The demo design is guarded: none of the steps of a guard refuses it.
use Rattle.std.proofs.Common.{◌≡◌, refl, sym, ◌∙◌, ap, subst, ℕ, ◌+◌, ◌*◌, ◌<◌, ◌≤◌, ◌⊎◌, inl, inr, Option, Some, None, arith}
use Rattle.std.specs.Prelude.{IfSome}
use Rattle.netlist_spec.specs.Netlist.{Model, File}
use Rattle.netlist_spec.specs.Models.{main_model}
use Rattle.netlist_spec.specs.Sound.{IsSound}
use Rattle.netlist_spec.proofs.SoundHasNoFault.{sound_no_fault}
use Rattle.guard_spec.specs.Codes.{rail_count}
use Rattle.guard_spec.specs.Plain.{IsPlain}
use Rattle.guard_spec.specs.Words.{Settings, Layout, IsLayout, layout_fault}
use Rattle.size_laws.proofs.AloneSizes.{size_alone}
use Rattle.program_spec.specs.Demo.{demo_settings}
use Rattle.program_spec.proofs.OneLayout.{one_layout}
use Rattle.demo_laws.specs.DemoFile.{demo_file, demo_layout, demo_model}
use Rattle.demo_design.specs.Design.{IsWholeDesign}
use Rattle.guard_source.specs.Accepted.{GuardRefusal, IsRefusedGuard, unsound, bad_layout, guard_too_large}

pub same_some : {A : Type 0} (answer : Option A) (a b : A) → answer ≡ Some a → answer ≡ Some b → a ≡ b
same_some answer a b p q = let e : Some a ≡ Some b = sym p ∙ q in cc

not_both : {A : Type 0} (answer : Option A) (a : A) → answer ≡ None → answer ≡ Some a → ⊥
not_both answer a p q = let e : None ≡ Some a = sym p ∙ q in cc

-- a source that passes all that is asked of it
module _ (file : File) (s : Settings) (m : Model) (l : Layout) (size : ℕ) (sound : IsSound file s.library) (main : main_model file ≡ Some m) (fits : layout_fault m s ≡ None) (laid_out : IsLayout m s l) (plain : IsPlain file s.library m s.code s.mode s.bound l size) (small : size ≤ 1000000) where
  no_refusal : (refusal : GuardRefusal) → IsRefusedGuard file s refusal → ⊥
  no_refusal (unsound fault) is = sound_no_fault file s.library sound fault is.found
  no_refusal (bad_layout fault) (k, taken, is) =
      let same : m ≡ k = same_some (main_model file) m k main taken.main in
      not_both (layout_fault k s) fault (subst (λ (x : Model). layout_fault x s ≡ None) same fits) is
  no_refusal guard_too_large (k, other, given, (n, is, large)) =
      let same : k ≡ m = same_some (main_model file) k m given.taken.main main in
      let is_layout : IsLayout m s other = subst (λ (x : Model). IsLayout x s other) same given.is_layout in
      let one : other ≡ l = one_layout m s other l fits is_layout laid_out in
      let of_same : IsPlain file s.library m s.code s.mode s.bound other n = subst (λ (x : Model). IsPlain file s.library x s.code s.mode s.bound other n) same is in
      let of_one : IsPlain file s.library m s.code s.mode s.bound l n = subst (λ (x : Layout). IsPlain file s.library m s.code s.mode s.bound x n) one of_same in
      let e : n ≡ size = size_alone file s.library m s.code s.mode s.bound (rail_count s.mode s.bound) l n size of_one plain in
      omega (arith, e, small, large)

  none_is_told : (told : Option GuardRefusal) → IfSome told (IsRefusedGuard file s) → told ≡ None
  none_is_told None is = refl
  none_is_told (Some refusal) is = absurd (no_refusal refusal is)

-- No refusal is told of a file that is that of a design.
pub design_is_taken : (n : ℕ) (file : File) (s : Settings) (told : Option GuardRefusal) → IsWholeDesign n → file ≡ demo_file n → s ≡ demo_settings → IfSome told (IsRefusedGuard file s) → told ≡ None
design_is_taken n file s told whole same_file same_settings is =
    none_is_told (demo_file n) demo_settings (demo_model n) (demo_layout n) (4720 * n + 4) whole.sound refl whole.no_fault whole.laid_out whole.plain (let few = whole.small in omega arith) told
    (subst (λ (x : Settings). IfSome told (IsRefusedGuard (demo_file n) x)) same_settings (subst (λ (x : File). IfSome told (IsRefusedGuard x s)) same_file is))
