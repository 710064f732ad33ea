-- Words: which command the words behind the program's name are. Contracts cite it.
use Rattle.std.specs.Prelude.{ℕ, ◌*◌, ◌-◌, ◌^◌, ◌<◌, ◌≤◌, nat_le, nat_lt, Bool, true, false, not, ◌&&◌, if◌then◌else◌, List, [], ◌∷◌, length, codes, Option, Some, None}
use Rattle.std.specs.List.{list_any}
use Rattle.std.specs.Option.{option_map}
use Rattle.std.specs.Str.{bytes_eq}
use Rattle.std.specs.Str.Parse.{digits_value, without_leading_plus}
use Rattle.clap.specs.ValueTests.{accepts}
use Rattle.clap.specs.Words.{App, Kinds, Row, Rule, Text, fault_of, first_of, new_app, new_rule, subcommand_of, subcommand_rows_of, with_rule, with_subcommand}
use Rattle.clap.specs.declared.parser.matches.ArgMatches.{ArgMatches}
use Rattle.clap.specs.declared.builder.action.ArgAction.TheVariants.{Set}
use Rattle.clap.specs.declared.builder.value_parser.ValueParser.{ValueParser}
use Rattle.clap.specs.declared.builder.value_parser.ValueParser.TheVariants.{Unsigned}
use Rattle.ca_base.specs.declared.limits.TheConstants.{MAX_ADAPTERS, MAX_DOMAINS, MAX_WORKERS}
use Rattle.ca_keys.specs.Equal.{domain_eq}
use Rattle.ca_keys.specs.Spelling.{domain_text}
use Rattle.ca_keys.specs.declared.names.DomainId.{DomainId}
use Rattle.ca_trace_lex.specs.Words.{◌>>=◌, all_in, domain_in, pieces}
use Rattle.ca_run_command.specs.declared.command.Command.{Command}
use Rattle.ca_run_command.specs.declared.command.Command.TheVariants as commands

-- ---- a group of domains

-- the domain that a text names: it is spelled so, of an adapter and a domain that there may be
abbrev pub domain_named : List ℕ → Option DomainId
domain_named w = do
  d ← domain_in w
  if bytes_eq w (domain_text d) && nat_lt d.adapter MAX_ADAPTERS && nat_lt d.domain MAX_DOMAINS then Some d else None

-- none of them stands there twice
abbrev pub are_distinct : List DomainId → Bool
are_distinct [] = true
are_distinct (d ∷ ds) = not (list_any (domain_eq d) ds) && are_distinct ds

-- distinct domains, with commas between
unfoldable pub group_named : List ℕ → Option (List DomainId)
group_named w = do
  ds ← all_in domain_named (pieces 44 w)
  if nat_le (length ds) (MAX_ADAPTERS * MAX_DOMAINS) && are_distinct ds then Some ds else None

-- ---- a seed

-- numbers of 64 bits: digits, and at most one plus sign in front
abbrev pub any_seed : ValueParser
any_seed = Unsigned 0 (2 ^ 64 - 1)

-- the number that a text names, where the parser of command lines takes it for one
abbrev pub seed_named : Text → Option ℕ
seed_named w = if accepts false any_seed w then Some (digits_value 10 (without_leading_plus w)) else None

-- ---- a number of workers

-- numbers from one to as many workers as there may be
abbrev pub some_workers : ValueParser
some_workers = Unsigned 1 MAX_WORKERS

-- the number that a text names, where the parser of command lines takes it for one
abbrev pub workers_named : Text → Option ℕ
workers_named w = if accepts false some_workers w then Some (digits_value 10 (without_leading_plus w)) else None

-- there are from one to as many workers as there may be
abbrev pub HasWorkers : Command → Type 0
HasWorkers (commands.Race workers) = (0 < workers) × (workers ≤ MAX_WORKERS)
HasWorkers command = Unit {0}

-- ---- the command line

-- an argument of this name that has to be there, with a text
abbrev pub text_rule : Text → Rule
text_rule name = record (new_rule name) { long = Some name; action = Some Set; required = true }

-- the program's own words begin with the first
abbrev pub bare_line : App
bare_line =
    let bare = new_app (codes "ca") in
    record bare { top = record bare.top { no_binary_name = true; subcommand_required = true } }

-- with one subcommand more, which has an argument with a text
abbrev pub with_text : App → Text → Text → App
with_text line name argument = with_subcommand line (with_rule (new_app name) (text_rule argument)).top

-- it has four subcommands, of which one has to be named
abbrev pub command_line : App
command_line =
    with_text
    (with_text
    (with_text
    (with_subcommand bare_line (new_app (codes "script")).top)
    (codes "race") (codes "workers"))
    (codes "alone") (codes "group"))
    (codes "make") (codes "seed")

-- the command of a group's text
abbrev pub alone_with : Option Text → Option Command
alone_with text = text >>= λ t. option_map (λ ds. commands.Alone ds) (group_named t)

-- the command of a text for the number of workers
abbrev pub race_with : Option Text → Option Command
race_with text = text >>= λ t. option_map (λ n. commands.Race n) (workers_named t)

-- the command of a seed's text
abbrev pub make_with : Option Text → Option Command
make_with text = text >>= λ t. option_map (λ n. commands.Make n) (seed_named t)

-- the command of a subcommand's name and arguments
abbrev pub command_named : Text × List Row → Option Command
command_named (name, rows) =
    if bytes_eq name (codes "script") then Some commands.Script
    else if bytes_eq name (codes "make") then make_with (first_of (codes "seed") rows)
    else if bytes_eq name (codes "race") then race_with (first_of (codes "workers") rows)
    else alone_with (first_of (codes "group") rows)

-- the command that a parse met
abbrev pub command_met : ArgMatches → Option Command
command_met m = subcommand_rows_of m >>= command_named

-- what is said where there is no fault
abbrev pub unless_faulty : Kinds → Option Command → Option Command
unless_faulty [] said = said
unless_faulty (k ∷ ks) said = None

-- the command that words are, where the command line finds no fault in them
unfoldable pub command_in : List Text → Option Command
command_in words = unless_faulty (fault_of command_line words) (subcommand_of command_line words >>= command_named)
