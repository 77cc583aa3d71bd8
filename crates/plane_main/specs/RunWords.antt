-- The words of `run`: `-c FOLDER`, and perhaps `-t FOLDER`, `-a JSON` and `-w MOMENT`, in any order, each at most once.
use Rattle.std.specs.Prelude.{ℕ, ◌≡◌, List, [], ◌∷◌, codes, Option, Some, None, bytes_eq, is_some, unwrap_or, refl}
use Rattle.std.specs.Prelude.{◌||◌, not, if◌then◌else◌, Result, Ok, Err, ⊤}
use Rattle.std.specs.Option.{option_and_then, option_map}
use Rattle.script_lines.specs.Arguments.{long_decimal_of}
use Rattle.ubus_acl.specs.declared.acl.Acl.{Acl}
use Rattle.ubus_acl.specs.declared.access_error.AclError.{AclError}
use Rattle.ubus_acl.specs.Form.{acl_of}
use Rattle.plane_main.specs.declared.run_words.RunAsked.{RunAsked}
use Rattle.plane_main.specs.declared.run_words.RunOptions.{RunOptions}
use Rattle.plane_main.specs.declared.run_words.TheConstants.{STAGED_FOLDER, EMPTY_ACL}

abbrev pub no_options : RunOptions
no_options = record { files = None; staged = None; acl = None; moment = None }

-- the options with one more, which was not given before
abbrev pub with_option : RunOptions → List ℕ → List ℕ → Option RunOptions
with_option given word value =
    if bytes_eq word (codes "-c") then
    (if is_some given.files then None else Some (record given { files = Some value })) else
    if bytes_eq word (codes "-t") then
    (if is_some given.staged then None else Some (record given { staged = Some value })) else
    if bytes_eq word (codes "-a") then
    (if is_some given.acl then None else Some (record given { acl = Some value })) else
    if not (bytes_eq word (codes "-w")) || is_some given.moment then None else
    option_map (λ moment. record given { moment = Some moment }) (long_decimal_of value)

-- options and their values, behind those that were given
abbrev pub options_of : RunOptions → List (List ℕ) → Option RunOptions
options_of given [] = Some given
options_of given (word ∷ []) = None
options_of given (word ∷ value ∷ rest) =
    option_and_then (λ next. options_of next rest) (with_option given word value)

-- the folder of packages has to be named; that of staged changes is the usual one, the access list has no record, and
-- the moment is 0, where nothing else is said
abbrev pub asked_for : RunOptions → List ℕ → RunAsked
asked_for options files = record {
  files = files;
  staged = unwrap_or options.staged STAGED_FOLDER.now;
  acl = unwrap_or options.acl EMPTY_ACL.now;
  moment = unwrap_or options.moment 0;
}

abbrev pub asked_by : RunOptions → Option RunAsked
asked_by options = option_map (asked_for options) options.files

-- what words ask `run` for
abbrev pub run_of : List (List ℕ) → Option RunAsked
run_of [] = None
run_of (word ∷ rest) =
    if bytes_eq word (codes "run") then option_and_then asked_by (options_of no_options rest) else None

-- a text was read as an access list, or is none
abbrev pub IsList : Result Acl AclError → Type 0
IsList (Ok acl) = ⊤
IsList (Err why) = ⊥

-- the access list of a run reads
abbrev pub HasAcl : RunAsked → Type 0
HasAcl asked = IsList (acl_of asked.acl)

-- a folder at a moment; with an access list that is given; one that is given twice; and no folder
at_moment : run_of (codes "run" ∷ codes "-w" ∷ codes "7" ∷ codes "-c" ∷ codes "d" ∷ [])
    ≡ Some (record { files = codes "d"; staged = STAGED_FOLDER.now; acl = EMPTY_ACL.now; moment = 7 })
at_moment = refl

listed : run_of (codes "run" ∷ codes "-c" ∷ codes "d" ∷ codes "-a" ∷ codes "[{}]" ∷ [])
    ≡ Some (record { files = codes "d"; staged = STAGED_FOLDER.now; acl = codes "[{}]"; moment = 0 })
listed = refl

twice : run_of (codes "run" ∷ codes "-a" ∷ codes "[]" ∷ codes "-c" ∷ codes "d" ∷ codes "-a" ∷ codes "[]" ∷ [])
    ≡ None
twice = refl

nowhere : run_of (codes "run" ∷ codes "-w" ∷ codes "7" ∷ []) ≡ None
nowhere = refl
