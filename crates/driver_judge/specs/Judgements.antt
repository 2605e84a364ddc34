-- A whole log beside our driver.
use Rattle.std.specs.Prelude.{ℕ, ◌+◌, List, [], ◌∷◌, ◌++◌, fold, length, replicate, None}
use Rattle.std.specs.Option.{option_map}
use Rattle.egl_model.specs.State.{opening}
use Rattle.log_reader.specs.Logs.{LogValue}
use Rattle.log_reader.specs.declared.items.Cut.{Cut}
use Rattle.log_reader.specs.declared.items.Item.{Item}
use Rattle.driver_judge.specs.declared.judgements.CutCall.{CutCall}
use Rattle.driver_judge.specs.declared.judgements.LineVerdict.{LineVerdict}
use Rattle.driver_judge.specs.declared.judgements.LineVerdict.TheVariants.{Agreed, Own}
use Rattle.driver_judge.specs.declared.judgements.Note.{Note}
use Rattle.driver_judge.specs.Answers.{nothing_stands}
use Rattle.driver_judge.specs.Configs.{configs_of}
use Rattle.driver_judge.specs.Judging.{Beside, Found, Setting, judge_item, number_of}
use Rattle.driver_judge.specs.Values.{JudgementValue}

-- how many lines agree, how many of these with a value that is the driver's own, and what is found of each other line
pub record TallyValue : Type 0 where
  pub agreed : ℕ
  pub own : ℕ
  pub notes : List Note

-- what was found so far, and where our driver stands
pub record Progress : Type 0 where
  pub beside : Beside
  pub tally : TallyValue

-- 1 for a line that agrees, and for one whose value is the driver's own
abbrev pub is_agreed : LineVerdict → ℕ
is_agreed Agreed = 1
is_agreed Own = 1
is_agreed verdict = 0

abbrev pub is_own : LineVerdict → ℕ
is_own Own = 1
is_own verdict = 0

-- a line that doesn't agree is noted
abbrev pub noted : ℕ → LineVerdict → List Note
noted line Agreed = []
noted line Own = []
noted line verdict = record { line = line; verdict = verdict } ∷ []

abbrev pub with_verdict : ℕ → LineVerdict → TallyValue → TallyValue
with_verdict line verdict t = record { agreed = t.agreed + is_agreed verdict; own = t.own + is_own verdict; notes = t.notes ++ noted line verdict }

abbrev pub with_found : ℕ → Found → TallyValue → Progress
with_found line f t = record { beside = f.after; tally = with_verdict line f.verdict t }

unfoldable pub judge_next : Setting → Progress → Item → Progress
judge_next set p item = with_found (number_of item) (judge_item set item p.beside.state p.beside.kept) p.tally

-- our driver before the first line: nothing stands for anything, and each thread has the context that it has in theirs
abbrev pub opened : LogValue → Beside
opened l = record {
  state = opening l.windows l.video;
  kept = record {
    stands = nothing_stands;
    variables = [];
    adrift = replicate l.threads None;
    formats = [];
  };
}

abbrev pub begun : LogValue → Progress
begun l = record { beside = opened l; tally = record { agreed = 0; own = 0; notes = [] } }

abbrev pub setting : LogValue → ℕ → Setting
setting l delta = record { configs = configs_of l.configs; delta = delta }

unfoldable pub judged : LogValue → ℕ → Progress
judged l delta = fold (judge_next (setting l delta)) (begun l) l.items

abbrev pub cut_call : Cut → CutCall
cut_call c = record { line = c.line.number; kind = c.line.call.kind; word = c.word }

-- what is found in a log, where a component of a pixel may differ by so many steps
unfoldable pub judgement : LogValue → ℕ → JudgementValue
judgement l delta = record {
  lines = length l.items;
  agreed = (judged l delta).tally.agreed;
  own = (judged l delta).tally.own;
  notes = (judged l delta).tally.notes;
  cut = option_map cut_call l.cut;
}
