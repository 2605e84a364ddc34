-- The words that are a command.
use Rattle.std.specs.Prelude.{ℕ, ◌==◌, ◌&&◌, ◌||◌, ◌<◌, ◌≤◌, true, false, List, [], if◌then◌else◌, length, slice_index_or, codes, Option, None, Some}
use Rattle.std.specs.Str.{bytes_eq}
use Rattle.trace_reader.specs.Numerals.{numeral}
use Rattle.egl_cli.specs.declared.commands.Command.{Command}
use Rattle.egl_cli.specs.declared.commands.Command.TheVariants.{Serial, Play, Check, Configs, Generate, Compose, Scene, Races}

-- the command with a name of one word
abbrev pub command_named : List ℕ → Option Command
command_named word =
    if bytes_eq word (codes "serial") then Some Serial else if bytes_eq word (codes "play") then Some (Play false) else if bytes_eq word (codes "check") then Some Check else if bytes_eq word (codes "configs") then Some Configs else if bytes_eq word (codes "scene") then Some Scene else if bytes_eq word (codes "races") then Some Races else None

-- the command with a name of two words
abbrev pub command_told : List ℕ → List ℕ → Option Command
command_told word how = if bytes_eq word (codes "play") && bytes_eq how (codes "summary") then Some (Play true) else None

-- how much to generate: lines, threads, of which there is one at least, and the seed
abbrev pub generating : Option ℕ → Option ℕ → Option ℕ → Option Command
generating (Some lines) (Some threads) (Some seed) = if threads == 0 then None else Some (Generate lines threads seed)
generating (Some lines) (Some threads) None = None
generating (Some lines) None seed = None
generating None threads seed = None

-- a screen's sides, neither of which is 0
abbrev pub composing : Option ℕ → Option ℕ → Option Command
composing (Some width) (Some height) = if (width == 0) || (height == 0) then None else Some (Compose width height)
composing (Some width) None = None
composing None height = None

-- the command with a name and two numbers in decimal, without a sign or a leading zero
abbrev pub command_sided : List ℕ → List ℕ → List ℕ → Option Command
command_sided word width height = if bytes_eq word (codes "compose") then composing (numeral 2048 width) (numeral 2048 height) else None

-- the command with a name and three numbers in decimal, without a sign or a leading zero
abbrev pub command_sized : List ℕ → List ℕ → List ℕ → List ℕ → Option Command
command_sized word lines threads seed = if bytes_eq word (codes "gen") then generating (numeral 90000 lines) (numeral 16 threads) (numeral 9223372036854775807 seed) else None

abbrev pub word_of : List (List ℕ) → ℕ → List ℕ
word_of words k = slice_index_or words k []

-- the command that the words are
abbrev pub command_of : List (List ℕ) → Option Command
command_of words =
    if length words == 1 then command_named (word_of words 0) else if length words == 2 then command_told (word_of words 0) (word_of words 1) else if length words == 3 then command_sided (word_of words 0) (word_of words 1) (word_of words 2) else if length words == 4 then command_sized (word_of words 0) (word_of words 1) (word_of words 2) (word_of words 3) else None

-- the same where no thread can be started: `play` is none
abbrev pub without_play : Option Command → Option Command
without_play None = None
without_play (Some Serial) = Some Serial
without_play (Some (Play summary)) = None
without_play (Some Check) = Some Check
without_play (Some Configs) = Some Configs
without_play (Some (Generate lines threads seed)) = Some (Generate lines threads seed)
without_play (Some (Compose width height)) = Some (Compose width height)
without_play (Some Scene) = Some Scene
without_play (Some Races) = Some Races

-- the command that the words are without threads
abbrev pub plain_command_of : List (List ℕ) → Option Command
plain_command_of words = without_play (command_of words)

-- what is generated, and a screen, have a size that they may have
abbrev pub HasSize : Option Command → Type 0
HasSize None = Unit {0}
HasSize (Some Serial) = Unit {0}
HasSize (Some (Play summary)) = Unit {0}
HasSize (Some Check) = Unit {0}
HasSize (Some Configs) = Unit {0}
HasSize (Some (Generate lines threads seed)) = (lines ≤ 90000) × (0 < threads) × (threads ≤ 16)
HasSize (Some (Compose width height)) = (0 < width) × (width ≤ 2048) × (0 < height) × (height ≤ 2048)
HasSize (Some Scene) = Unit {0}
HasSize (Some Races) = Unit {0}
