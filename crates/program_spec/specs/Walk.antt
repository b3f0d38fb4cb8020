-- The steps of a command as data, and what they come to over the contents of its files.
use Rattle.std.specs.Prelude.{◌≡◌, ℕ, ◌<◌, ◌≤◌, ◌⊎◌, List, length, Option, MatchOption, IsSomeAnd, ⊤}
use Rattle.program_spec.specs.Refusals.{Refusal, file_too_long}

-- what the files hold: the bytes of each name that is held
abbrev pub Contents : Type 0
Contents = List ℕ → Option (List ℕ)

-- A step refuses; all steps pass; or the walk ends at the load of a file that isn't held.
pub data Verdict : Type 0 where
  refused : (refusal : Refusal) → Verdict
  passes : Verdict
  not_held : (name : List ℕ) → Verdict

-- A test finds a value, or refuses.
pub record Test (A : Type 0) : Type 1 where
  pub Finds : A → Type 0
  pub Refuses : Refusal → Type 0

-- All steps are passed; a file of at most so many bytes is loaded; or a test is made, and the walk goes on with what it
-- finds.
pub data Walk : Type 1 where
  end : Walk
  load : (name : List ℕ) (limit : ℕ) (next : List ℕ → Walk) → Walk
  test : (A : Type 0) (asks : Test A) (next : A → Walk) → Walk

-- What a walk comes to. A file that is longer than its limit is refused at its load.
abbrev pub ComesTo : Walk → Contents → Verdict → Type 0
ComesTo end contents verdict = verdict ≡ passes
ComesTo (load name limit next) contents verdict =
    MatchOption (contents name) (verdict ≡ not_held name) (λ bytes.
    ((limit < length bytes) × (verdict ≡ refused (file_too_long name)))
    ⊎ ((length bytes ≤ limit) × ComesTo (next bytes) contents verdict))
ComesTo (test A asks next) contents verdict =
    ((found : A) × asks.Finds found × ComesTo (next found) contents verdict)
    ⊎ ((refusal : Refusal) × asks.Refuses refusal × (verdict ≡ refused refusal))

-- The walk comes to a load of that name: all steps before it pass.
abbrev pub ComesToLoad : Walk → Contents → List ℕ → Type 0
ComesToLoad end contents name = ⊥
ComesToLoad (load first limit next) contents name =
    (name ≡ first) ⊎ IsSomeAnd (contents first) (λ bytes. (length bytes ≤ limit) × ComesToLoad (next bytes) contents name)
ComesToLoad (test A asks next) contents name = (found : A) × asks.Finds found × ComesToLoad (next found) contents name

-- A load of that name and limit is one of the steps, whether or not the walk comes to it.
abbrev pub HasLoad : Walk → List ℕ → ℕ → Type 0
HasLoad end name limit = ⊥
HasLoad (load first most next) name limit = ((name ≡ first) × (limit ≡ most)) ⊎ ((bytes : List ℕ) × HasLoad (next bytes) name limit)
HasLoad (test A asks next) name limit = (found : A) × HasLoad (next found) name limit

-- A test finds one value at most, or refuses one thing at most, and never does both.
pub record IsTest (A : Type 0) (asks : Test A) : Type 0 where
  pub one_found : (a b : A) → asks.Finds a → asks.Finds b → a ≡ b
  pub one_refused : (r s : Refusal) → asks.Refuses r → asks.Refuses s → r ≡ s
  pub never_both : (a : A) (r : Refusal) → asks.Finds a → asks.Refuses r → ⊥

-- So each test to which the walk can come: behind a load one of bytes that it takes, behind a test one of what that finds.
abbrev pub HasTests : Walk → Type 0
HasTests end = ⊤
HasTests (load name limit next) = (bytes : List ℕ) → length bytes ≤ limit → HasTests (next bytes)
HasTests (test A asks next) = IsTest A asks × ((found : A) → asks.Finds found → HasTests (next found))
