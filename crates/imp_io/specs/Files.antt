-- What is known of named files, and what a load does.
use Rattle.std.specs.Prelude.{◌≡◌, ◌≢◌, ◌⊎◌, ℕ, ◌+◌, ◌^◌, ◌<◌, ◌≤◌, false, ⊤, List, [], ◌∷◌, map, find, length, vec_len, Vec, Result, Ok, Err, Some, IsSome, is_some, IfSome, IsSomeAnd, IfOk, IsErrOf}
use Rattle.std.specs.Option.{option_map, option_map_or, option_and_then}
use Rattle.std.specs.List.{AllByRecursion, list_any}
use Rattle.std.specs.Str.{bytes_eq}
use Rattle.std.specs.declared.alloc.Global.{Global}
use Rattle.std.specs.declared.option.Option.{Option}
use Rattle.imp_io.specs.declared.fault.LoadFault.{LoadFault}
use Rattle.imp_io.specs.declared.fault.LoadFault.TheVariants.{Failed, TooLong, NoMemory}
use Rattle.imp_io.specs.Counts.{Rose, RoseBy, Stayed, raised_by}

-- a file: its name, its bytes, and how many loads of it have failed
pub record HeldFile : Type 0 where
  pub name : List ℕ
  pub bytes : List ℕ
  pub failed : ℕ

-- its name with its bytes, without the count
abbrev pub text_of : HeldFile → List ℕ × List ℕ
text_of file = (file.name, file.bytes)

-- the file of that name, if it is held
abbrev pub held_at : List HeldFile → List ℕ → Option HeldFile
held_at files name = find (λ file. bytes_eq file.name name) files

-- the file of that name, if the files are known and it is held
abbrev pub file_at : Option (List HeldFile) → List ℕ → Option HeldFile
file_at told name = option_and_then (λ files. held_at files name) told

-- its bytes
abbrev pub bytes_at : Option (List HeldFile) → List ℕ → Option (List ℕ)
bytes_at told name = option_map (λ (file : HeldFile). file.bytes) (file_at told name)

-- how many loads of it have failed; 0 for a name that isn't held
abbrev pub own_count : Option (List HeldFile) → List ℕ → ℕ
own_count told name = option_map_or (λ (file : HeldFile). file.failed) (file_at told name) 0

-- names and bytes without the counts
abbrev pub contents_of : Option (List HeldFile) → Option (List (List ℕ × List ℕ))
contents_of told = option_map (map text_of) told

-- none of them stands twice
abbrev pub AreDistinct : List (List ℕ) → Type 0
AreDistinct [] = ⊤
AreDistinct (name ∷ names) = (list_any (λ other. bytes_eq other name) names ≡ false) × AreDistinct names

-- no name stands twice
abbrev pub HasDistinctNames : List HeldFile → Type 0
HasDistinctNames files = AreDistinct (map (λ (file : HeldFile). file.name) files)

-- each own count is below 2^64
abbrev pub HasSmallCounts : List HeldFile → Type 0
HasSmallCounts files = AllByRecursion (λ (file : HeldFile). file.failed < 2 ^ 64) files

-- What is known of files at a moment: what they hold, where that is known, how many loads have failed, and how many
-- bytes have been taken.
pub record FilesSeen : Type 0 where
  pub told : Option (List HeldFile)
  pub faults : ℕ
  pub taken : ℕ

-- no name stands twice, and each count is below 2^64
pub record IsInOrder (files : FilesSeen) : Type 0 where
  pub distinct : IfSome files.told HasDistinctNames
  pub own_small : IfSome files.told HasSmallCounts
  pub faults_small : files.faults < 2 ^ 64
  pub taken_small : files.taken < 2 ^ 64

-- a fact, unless the load answered Failed
abbrev pub UnlessFailed : Result (Vec ℕ Global) LoadFault → Type 0 → Type 0
UnlessFailed (Ok bytes) P = P
UnlessFailed (Err Failed) P = ⊤
UnlessFailed (Err TooLong) P = P
UnlessFailed (Err NoMemory) P = P

-- a load of the file of that name, of at most so many bytes, with that answer
pub record Loads (old : FilesSeen) (name : List ℕ) (most : ℕ) (result : Result (Vec ℕ Global) LoadFault) (new : FilesSeen) : Type 0 where
  -- What is given is the whole contents.
  pub within : IfOk result (λ bytes. vec_len bytes ≤ most)
  pub given : IfOk result (λ bytes. IsSome old.told → bytes_at old.told name ≡ Some bytes.items)
  -- When each fault comes. Want of memory is free.
  pub failed : IsErrOf result Failed → Rose old.faults new.faults
  pub failed_file : IsErrOf result Failed → IsSome (bytes_at old.told name) → Rose (own_count old.told name) (own_count new.told name)
  pub too_long : IsErrOf result TooLong → RoseBy (most + 1) old.taken new.taken
  pub too_long_file : IsErrOf result TooLong → IsSome old.told → IsSomeAnd (bytes_at old.told name) (λ bytes. most < length bytes)
  -- It is the answer there, want of memory aside, if no fault came.
  pub too_long_there : IsSomeAnd (bytes_at old.told name) (λ bytes. most < length bytes) → Stayed old.faults new.faults → IsErrOf result TooLong ⊎ IsErrOf result NoMemory
  -- Its own count counts the loads that answer Failed and no others, and no other name's own count changes.
  pub same_own : UnlessFailed result (own_count new.told name ≡ own_count old.told name)
  pub same_others : (other : List ℕ) → other ≢ name → own_count new.told other ≡ own_count old.told other

-- Files after some loads: names and bytes are the same, so each name has its bytes, and no count has fallen.
pub record IsLater (old new : FilesSeen) : Type 0 where
  pub contents : contents_of new.told ≡ contents_of old.told
  pub told : is_some new.told ≡ is_some old.told
  pub bytes : (name : List ℕ) → bytes_at new.told name ≡ bytes_at old.told name
  pub own : (name : List ℕ) → own_count old.told name ≤ own_count new.told name
  pub faults : old.faults ≤ new.faults
  pub taken : old.taken ≤ new.taken

-- the count of faults after a load that counts nothing but its own failure
abbrev pub faults_after : ℕ → Result (Vec ℕ Global) LoadFault → ℕ
faults_after faults (Ok bytes) = faults
faults_after faults (Err Failed) = raised_by faults 1
faults_after faults (Err TooLong) = faults
faults_after faults (Err NoMemory) = faults

-- A load counts its own failure as a fault and nothing else, and what it gives as taken.
pub record CountsLoad (old : FilesSeen) (result : Result (Vec ℕ Global) LoadFault) (new : FilesSeen) : Type 0 where
  pub faults : new.faults ≡ faults_after old.faults result
  pub taken : IfOk result (λ bytes. new.taken ≡ raised_by old.taken (vec_len bytes))
