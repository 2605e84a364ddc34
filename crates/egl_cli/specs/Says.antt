-- What each status of the program promises of what was read and written.
use Rattle.std.specs.Prelude.{◌≡◌, ℕ, ◌+◌, ◌≤◌, ◌⊎◌, Bool, false, List, [], ◌++◌, length, take, drop, codes, Option, None, Some, Ok as Spelt}
use Rattle.egl_calls.specs.declared.entries.Entry.{Entry}
use Rattle.egl_flow.specs.Flow.{AtEnd, Took, TookFront}
use Rattle.egl_flow.specs.Causes.{GavePast, GaveWithin}
use Rattle.egl_flow.specs.Inputs.{read_fault_text, too_long_text, most_input}
use Rattle.egl_flow.specs.Statuses.{Wrote}
use Rattle.egl_flow.specs.declared.statuses.Status.{Status}
use Rattle.egl_flow.specs.declared.statuses.Status.TheVariants.{Ok, Usage, ReadFault, Malformed, WriteFault, Stalled, NoMemory, TooLong, Differs}
use Rattle.trace_reader.specs.Traces.{TraceValue}
use Rattle.trace_reader.specs.Grammar.{trace}
use Rattle.trace_reader.specs.Order.{IsTrace}
use Rattle.trace_model.specs.Follows.{IsPlayOf}
use Rattle.trace_model.specs.Stalled.{IsComplete, IsStalled}
use Rattle.trace_gen.specs.Generated.{generated}
use Rattle.journal_text.specs.Cuts.{cut_recording}
use Rattle.journal_text.specs.declared.cuts.Cut.{Cut}
use Rattle.trace_check.specs.Recordings.{IsRecording}
use Rattle.race_report.specs.declared.reports.Pair.{Pair}
use Rattle.race_report.specs.Replays.{AreRacesOf}
use Rattle.scene_reader.specs.Grammar.{scene}
use Rattle.scene_reader.specs.Scenes.{SceneValue}
use Rattle.sprite_scene.specs.Calls.{calls_of}
use Rattle.sprite_scene.specs.Runs.{Draws}
use Rattle.scene_trace.specs.Lines.{trace_of}
use Rattle.egl_cli.specs.Frames.{frames_text}
use Rattle.egl_cli.specs.BodyLines.{short_trace}
use Rattle.egl_cli.specs.RaceLines.{races_text}
use Rattle.egl_cli.specs.StalledLines.{stalled_lines}
use Rattle.egl_cli.specs.declared.answers.Answer.{Answer}
use Rattle.egl_cli.specs.declared.commands.Command.{Command}
use Rattle.egl_cli.specs.declared.commands.Command.TheVariants.{Serial, Play, Check, Configs, Generate, Compose, Scene, Races}
use Rattle.egl_cli.specs.declared.inputs.InputError.{InputError}
use Rattle.egl_cli.specs.declared.inputs.InputError.TheVariants.{ReadFault as Unread, TooLong as Overlong, Malformed as Defective, NoMemory as Unmade}
use Rattle.egl_cli.specs.Answers.{told, serial_answer, frames_answer, races_answer, scene_answer, check_answer, IsPlayAnswer, IsRacesAnswer, malformed_text, usage_text}
use Rattle.egl_cli.specs.ConfigLines.{configs_text}

-- a fact of the bytes of the input, where the source tells them
abbrev pub WhereTold : Option (List ℕ) → (List ℕ → Type 0) → Type 0
WhereTold None P = Unit {0}
WhereTold (Some b) P = P b

-- ---- What was written.
-- a text that is made in memory was written, and where that runs out nothing
abbrev pub WroteIfMade : Option (List ℕ) → List ℕ → Option (List ℕ) → Type 0 → Status → Status → Type 0
WroteIfMade before text after failed meant result = Wrote before text after failed meant result ⊎ ((result ≡ NoMemory) × Took before [] after)

-- the same of an answer of `play` to a trace
abbrev pub WrotePlay : Bool → TraceValue → Option (List ℕ) → Option (List ℕ) → Type 0 → Status → Type 0
WrotePlay how t before after failed result = ((a : Answer) × IsPlayAnswer how t a × Wrote before a.text after failed a.status result) ⊎ ((result ≡ NoMemory) × Took before [] after)

-- the same of an answer of `races` to a trace
abbrev pub WroteRaces : TraceValue → Option (List ℕ) → Option (List ℕ) → Type 0 → Status → Type 0
WroteRaces t before after failed result = ((a : Answer) × IsRacesAnswer t a × Wrote before a.text after failed a.status result) ⊎ ((result ≡ NoMemory) × Took before [] after)

-- why there is nothing to answer was told, a defect too, in any case; nothing was written where memory ran out before
abbrev pub WroteRefusal : InputError → Option (List ℕ) → Option (List ℕ) → Type 0 → Status → Type 0
WroteRefusal Unread before after failed result = Wrote before read_fault_text after failed ReadFault result
WroteRefusal Overlong before after failed result = Wrote before too_long_text after failed TooLong result
WroteRefusal (Defective line reason) before after failed result = Wrote before (malformed_text line reason) after failed Malformed result
WroteRefusal Unmade before after failed result = (result ≡ NoMemory) × Took before [] after

-- the status and the text are this answer's
abbrev pub IsAnswered : Answer → Option (List ℕ) → Option (List ℕ) → Status → Type 0
IsAnswered a before after status = (a.status ≡ status) × Took before a.text after

-- the bytes spell a trace, within the limit, and it is what each trace is: so the recording of a journal that plays it tells that journal
pub record Spells (b : List ℕ) (t : TraceValue) : Type 0 where
  pub within : length b ≤ most_input
  pub spelt : trace b ≡ Spelt t
  pub ordered : IsTrace t

-- the bytes spell a trace, and a text is what is told of a journal that plays it to the end of all threads
abbrev pub IsToldOf : Bool → List ℕ → List ℕ → Type 0
IsToldOf how b text = (t : TraceValue) × Spells b t × ((journal : List Entry) × IsPlayOf t journal × IsComplete t journal × (text ≡ told how t journal))

-- the same of a journal that plays it until no thread can go on, with the lines at which threads wait
abbrev pub IsToldStalledOf : Bool → List ℕ → List ℕ → Type 0
IsToldStalledOf how b text = (t : TraceValue) × Spells b t × ((journal : List Entry) × IsPlayOf t journal × IsStalled t journal × (text ≡ told how t journal ++ stalled_lines t journal))

-- what was written is such a text
abbrev pub IsTold : Bool → List ℕ → Option (List ℕ) → Option (List ℕ) → Type 0
IsTold how b before after = (text : List ℕ) × IsToldOf how b text × Took before text after

abbrev pub IsToldStalled : Bool → List ℕ → Option (List ℕ) → Option (List ℕ) → Type 0
IsToldStalled how b before after = (text : List ℕ) × IsToldStalledOf how b text × Took before text after

-- the bytes spell a trace, and what was written are the frames, on a screen of these sides, of a journal that plays it to the end of all threads
abbrev pub AreFrames : ℕ → ℕ → List ℕ → Option (List ℕ) → Option (List ℕ) → Type 0
AreFrames w h b before after = (t : TraceValue) × Spells b t × ((journal : List Entry) × IsPlayOf t journal × IsComplete t journal × Took before (frames_text w h t journal) after)

-- the same of a journal that plays it until no thread can go on, with the lines at which threads wait
abbrev pub AreFramesStalled : ℕ → ℕ → List ℕ → Option (List ℕ) → Option (List ℕ) → Type 0
AreFramesStalled w h b before after = (t : TraceValue) × Spells b t × ((journal : List Entry) × IsPlayOf t journal × IsStalled t journal × Took before (frames_text w h t journal ++ stalled_lines t journal) after)

-- an answer of `races` to the trace that the bytes spell, within the limits
abbrev pub AnswersRaces : List ℕ → Answer → Type 0
AnswersRaces b a = (t : TraceValue) × (length b ≤ most_input) × (short_trace b ≡ Spelt t) × IsRacesAnswer t a

-- the status is that of `races`, and such an answer with this status was written
abbrev pub WroteReport : List ℕ → Option (List ℕ) → Option (List ℕ) → Status → Type 0
WroteReport b before after status = ((races_answer b).status ≡ status) × ((a : Answer) × AnswersRaces b a × IsAnswered a before after status)

-- the bytes spell a trace, and what was written are all races of a journal that plays it to the end of all threads
abbrev pub AreRacesTold : List ℕ → Option (List ℕ) → Option (List ℕ) → Type 0
AreRacesTold b before after = (t : TraceValue) × Spells b t × ((journal : List Entry) × IsPlayOf t journal × IsComplete t journal × ((pairs : List Pair) × AreRacesOf t journal pairs × Took before (races_text journal pairs) after))

-- the same of a journal that plays it until no thread can go on, with the lines at which threads wait
abbrev pub AreRacesToldStalled : List ℕ → Option (List ℕ) → Option (List ℕ) → Type 0
AreRacesToldStalled b before after = (t : TraceValue) × Spells b t × ((journal : List Entry) × IsPlayOf t journal × IsStalled t journal × ((pairs : List Pair) × AreRacesOf t journal pairs × Took before (races_text journal pairs ++ stalled_lines t journal) after))

-- a text that `races` may answer to the bytes: that of a refusal, or the races of their trace
abbrev pub IsRacesText : List ℕ → List ℕ → Type 0
IsRacesText b text = (text ≡ (races_answer b).text) ⊎ ((a : Answer) × AnswersRaces b a × (text ≡ a.text))

-- a text that `play` may answer to the bytes: that of a refusal, or what is told of a journal that plays their trace
abbrev pub IsPlayText : Bool → List ℕ → List ℕ → Type 0
IsPlayText how b text = (text ≡ (serial_answer b).text) ⊎ (IsToldOf how b text ⊎ IsToldStalledOf how b text)

-- the bytes spell a scene, and what was written spells the trace of calls that draw it: made in order each is done, and the last one has the bytes of the scene's picture
abbrev pub IsDrawn : List ℕ → Option (List ℕ) → Option (List ℕ) → Type 0
IsDrawn b before after = (s : SceneValue) × (length b ≤ most_input) × (scene b ≡ Spelt s) × ((text : List ℕ) × (trace text ≡ Spelt (trace_of (calls_of s))) × Draws s (calls_of s) × Took before text after)

-- the bytes are a trace and behind it, byte for byte, the recording of a journal that plays it to the end of all threads
pub record IsClaimTrue (b : List ℕ) : Type 0 where
  pub cut : Cut
  pub begins : cut_recording b ≡ Some cut
  pub t : TraceValue
  pub spelt : trace (take cut.front b) ≡ Spelt t
  pub ordered : IsTrace t
  pub recorded : IsRecording t (drop cut.front b)

-- ---- What each status promises.
-- the commands that read the source
abbrev pub ReadsInput : Option Command → Type 0
ReadsInput None = ⊥
ReadsInput (Some Serial) = Unit {0}
ReadsInput (Some (Play how)) = Unit {0}
ReadsInput (Some Check) = Unit {0}
ReadsInput (Some Configs) = ⊥
ReadsInput (Some (Generate lines threads seed)) = ⊥
ReadsInput (Some (Compose width height)) = Unit {0}
ReadsInput (Some Scene) = Unit {0}
ReadsInput (Some Races) = Unit {0}

-- the answer of a command to the bytes; that of `play`, which isn't one alone, where there is no trace to play
abbrev pub answer_of : Option Command → List ℕ → Answer
answer_of None b = record { status = Usage; text = usage_text }
answer_of (Some Serial) b = serial_answer b
answer_of (Some (Play how)) b = serial_answer b
answer_of (Some Check) b = check_answer b
answer_of (Some Configs) b = record { status = Ok; text = configs_text }
answer_of (Some (Generate lines threads seed)) b = record { status = Ok; text = generated lines threads seed }
answer_of (Some (Compose width height)) b = frames_answer width height b
answer_of (Some Scene) b = scene_answer b
answer_of (Some Races) b = races_answer b

-- a text that was to be written, by the command: an answer's, or of those that read that of a read fault where the source failed
abbrev pub IsMeant : Option Command → Option (List ℕ) → Type 0 → List ℕ → Type 0
IsMeant None left source_failed text = text ≡ usage_text
IsMeant (Some Serial) left source_failed text = WhereTold left (λ b. (text ≡ (serial_answer b).text) ⊎ ((text ≡ read_fault_text) × source_failed))
IsMeant (Some (Play how)) left source_failed text = WhereTold left (λ b. IsPlayText how b text ⊎ ((text ≡ read_fault_text) × source_failed))
IsMeant (Some Check) left source_failed text = WhereTold left (λ b. (text ≡ (check_answer b).text) ⊎ ((text ≡ read_fault_text) × source_failed))
IsMeant (Some Configs) left source_failed text = text ≡ configs_text
IsMeant (Some (Generate lines threads seed)) left source_failed text = text ≡ generated lines threads seed
IsMeant (Some (Compose width height)) left source_failed text = WhereTold left (λ b. (text ≡ (frames_answer width height b).text) ⊎ ((text ≡ read_fault_text) × source_failed))
IsMeant (Some Scene) left source_failed text = WhereTold left (λ b. (text ≡ (scene_answer b).text) ⊎ ((text ≡ read_fault_text) × source_failed))
IsMeant (Some Races) left source_failed text = WhereTold left (λ b. IsRacesText b text ⊎ ((text ≡ read_fault_text) × source_failed))

-- what status Ok promises, by the command
abbrev pub WentWell : Option Command → Option (List ℕ) → Option (List ℕ) → Option (List ℕ) → Option (List ℕ) → Type 0
WentWell None left rest before after = ⊥
WentWell (Some Serial) left rest before after = AtEnd rest × WhereTold left (λ b. IsAnswered (serial_answer b) before after Ok)
WentWell (Some (Play how)) left rest before after = AtEnd rest × WhereTold left (λ b. IsTold how b before after)
WentWell (Some Check) left rest before after = AtEnd rest × WhereTold left (λ b. IsAnswered (check_answer b) before after Ok)
WentWell (Some Configs) left rest before after = (rest ≡ left) × Took before configs_text after
WentWell (Some (Generate lines threads seed)) left rest before after = (rest ≡ left) × Took before (generated lines threads seed) after
WentWell (Some (Compose width height)) left rest before after = AtEnd rest × WhereTold left (λ b. IsAnswered (frames_answer width height b) before after Ok)
WentWell (Some Scene) left rest before after = AtEnd rest × WhereTold left (λ b. IsAnswered (scene_answer b) before after Ok)
WentWell (Some Races) left rest before after = AtEnd rest × WhereTold left (λ b. WroteReport b before after Ok)

-- what status Stalled promises, by the command
abbrev pub GotStuck : Option Command → Option (List ℕ) → Option (List ℕ) → Option (List ℕ) → Option (List ℕ) → Type 0
GotStuck None left rest before after = ⊥
GotStuck (Some Serial) left rest before after = AtEnd rest × WhereTold left (λ b. IsAnswered (serial_answer b) before after Stalled)
GotStuck (Some (Play how)) left rest before after = AtEnd rest × WhereTold left (λ b. IsToldStalled how b before after)
GotStuck (Some Check) left rest before after = ⊥
GotStuck (Some Configs) left rest before after = ⊥
GotStuck (Some (Generate lines threads seed)) left rest before after = ⊥
GotStuck (Some (Compose width height)) left rest before after = AtEnd rest × WhereTold left (λ b. IsAnswered (frames_answer width height b) before after Stalled)
GotStuck (Some Scene) left rest before after = ⊥
GotStuck (Some Races) left rest before after = AtEnd rest × WhereTold left (λ b. WroteReport b before after Stalled)

-- what status Differs promises, by the command
abbrev pub GotDifference : Option Command → Option (List ℕ) → Option (List ℕ) → Option (List ℕ) → Option (List ℕ) → Type 0
GotDifference None left rest before after = ⊥
GotDifference (Some Serial) left rest before after = ⊥
GotDifference (Some (Play how)) left rest before after = ⊥
GotDifference (Some Check) left rest before after = AtEnd rest × WhereTold left (λ b. IsAnswered (check_answer b) before after Differs)
GotDifference (Some Configs) left rest before after = ⊥
GotDifference (Some (Generate lines threads seed)) left rest before after = ⊥
GotDifference (Some (Compose width height)) left rest before after = ⊥
GotDifference (Some Scene) left rest before after = ⊥
GotDifference (Some Races) left rest before after = ⊥

-- by the status: the command that the words are; what the source had left before and has left now, and that it failed; what the sink had taken before and has taken now, and that it failed
abbrev pub Says : Option Command → Option (List ℕ) → Option (List ℕ) → Type 0 → Option (List ℕ) → Option (List ℕ) → Type 0 → Status → Type 0
Says command left rest source_failed before after sink_failed Ok = WentWell command left rest before after
Says command left rest source_failed before after sink_failed Usage = (command ≡ None) × (rest ≡ left) × Took before usage_text after
Says command left rest source_failed before after sink_failed ReadFault = ReadsInput command × source_failed × Took before read_fault_text after
Says command left rest source_failed before after sink_failed Malformed = ReadsInput command × AtEnd rest × WhereTold left (λ b. IsAnswered (answer_of command b) before after Malformed)
Says command left rest source_failed before after sink_failed WriteFault = sink_failed × ((text : List ℕ) × TookFront before text after × IsMeant command left source_failed text)
Says command left rest source_failed before after sink_failed NoMemory = Took before [] after
Says command left rest source_failed before after sink_failed TooLong = ReadsInput command × GavePast left rest most_input (most_input + 1) × WhereTold left (λ b. IsAnswered (answer_of command b) before after TooLong)
Says command left rest source_failed before after sink_failed Stalled = GotStuck command left rest before after
Says command left rest source_failed before after sink_failed Differs = GotDifference command left rest before after

-- memory is wanted only where it is taken: for the texts of commands that read nothing, and for an input where the source neither failed nor gave more than the limit
abbrev pub WantsMemory : Option Command → Option (List ℕ) → Option (List ℕ) → ℕ → ℕ → Type 0
WantsMemory None left rest faults_before faults = ⊥
WantsMemory (Some Serial) left rest faults_before faults = (faults ≡ faults_before) × GaveWithin left rest most_input
WantsMemory (Some (Play how)) left rest faults_before faults = (faults ≡ faults_before) × GaveWithin left rest most_input
WantsMemory (Some Check) left rest faults_before faults = (faults ≡ faults_before) × GaveWithin left rest most_input
WantsMemory (Some Configs) left rest faults_before faults = Unit {0}
WantsMemory (Some (Generate lines threads seed)) left rest faults_before faults = Unit {0}
WantsMemory (Some (Compose width height)) left rest faults_before faults = (faults ≡ faults_before) × GaveWithin left rest most_input
WantsMemory (Some Scene) left rest faults_before faults = (faults ≡ faults_before) × GaveWithin left rest most_input
WantsMemory (Some Races) left rest faults_before faults = (faults ≡ faults_before) × GaveWithin left rest most_input

-- words that read nothing leave the source alone: what it has left, and its count of faults
abbrev pub IsUnread : Option Command → Option (List ℕ) → Option (List ℕ) → ℕ → ℕ → Type 0
IsUnread None left rest faults_before faults = (rest ≡ left) × (faults ≡ faults_before)
IsUnread (Some Serial) left rest faults_before faults = Unit {0}
IsUnread (Some (Play how)) left rest faults_before faults = Unit {0}
IsUnread (Some Check) left rest faults_before faults = Unit {0}
IsUnread (Some Configs) left rest faults_before faults = (rest ≡ left) × (faults ≡ faults_before)
IsUnread (Some (Generate lines threads seed)) left rest faults_before faults = (rest ≡ left) × (faults ≡ faults_before)
IsUnread (Some (Compose width height)) left rest faults_before faults = Unit {0}
IsUnread (Some Scene) left rest faults_before faults = Unit {0}
IsUnread (Some Races) left rest faults_before faults = Unit {0}

-- what status Ok is worth, by the command: of `serial`, `play`, `compose` and `races` a journal that plays the trace to its end, of `check` such a journal whose recording the bytes are, of `scene` the picture that the written calls leave, of the others their text
abbrev pub IsHeadline : Option Command → Option (List ℕ) → Option (List ℕ) → Option (List ℕ) → Option (List ℕ) → Type 0
IsHeadline None left rest before after = ⊥
IsHeadline (Some Serial) left rest before after = AtEnd rest × WhereTold left (λ b. IsTold false b before after)
IsHeadline (Some (Play how)) left rest before after = AtEnd rest × WhereTold left (λ b. IsTold how b before after)
IsHeadline (Some Check) left rest before after = AtEnd rest × WhereTold left (λ b. IsClaimTrue b × Took before (codes "holds\n") after)
IsHeadline (Some Configs) left rest before after = (rest ≡ left) × Took before configs_text after
IsHeadline (Some (Generate lines threads seed)) left rest before after = (rest ≡ left) × Took before (generated lines threads seed) after
IsHeadline (Some (Compose width height)) left rest before after = AtEnd rest × WhereTold left (λ b. AreFrames width height b before after)
IsHeadline (Some Scene) left rest before after = AtEnd rest × WhereTold left (λ b. IsDrawn b before after)
IsHeadline (Some Races) left rest before after = AtEnd rest × WhereTold left (λ b. AreRacesTold b before after)

-- what status Stalled is worth: the command plays a trace, and a journal plays it as far as its threads can go
abbrev pub IsStalledHeadline : Option Command → Option (List ℕ) → Option (List ℕ) → Option (List ℕ) → Option (List ℕ) → Type 0
IsStalledHeadline None left rest before after = ⊥
IsStalledHeadline (Some Serial) left rest before after = AtEnd rest × WhereTold left (λ b. IsToldStalled false b before after)
IsStalledHeadline (Some (Play how)) left rest before after = AtEnd rest × WhereTold left (λ b. IsToldStalled how b before after)
IsStalledHeadline (Some Check) left rest before after = ⊥
IsStalledHeadline (Some Configs) left rest before after = ⊥
IsStalledHeadline (Some (Generate lines threads seed)) left rest before after = ⊥
IsStalledHeadline (Some (Compose width height)) left rest before after = AtEnd rest × WhereTold left (λ b. AreFramesStalled width height b before after)
IsStalledHeadline (Some Scene) left rest before after = ⊥
IsStalledHeadline (Some Races) left rest before after = AtEnd rest × WhereTold left (λ b. AreRacesToldStalled b before after)

-- a status that `play` may answer to the bytes: that of `serial`, but a trace may come to its end in one run and stall in another
abbrev pub IsPlayStatus : List ℕ → Status → Type 0
IsPlayStatus b status = ((serial_answer b).status ≡ status) ⊎ (((t : TraceValue) × Spells b t) × ((status ≡ Ok) ⊎ (status ≡ Stalled)))

-- where nothing failed that the command needs, the status is that of its answer, or memory ran out for a command
abbrev pub IsWhole : Option Command → Option (List ℕ) → Type 0 → Type 0 → Status → Type 0
IsWhole None left source_failed sink_failed status = ¬ sink_failed → status ≡ Usage
IsWhole (Some Serial) left source_failed sink_failed status = WhereTold left (λ b. ¬ source_failed → ¬ sink_failed → ((serial_answer b).status ≡ status) ⊎ (status ≡ NoMemory))
IsWhole (Some (Play how)) left source_failed sink_failed status = WhereTold left (λ b. ¬ source_failed → ¬ sink_failed → IsPlayStatus b status ⊎ (status ≡ NoMemory))
IsWhole (Some Check) left source_failed sink_failed status = WhereTold left (λ b. ¬ source_failed → ¬ sink_failed → ((check_answer b).status ≡ status) ⊎ (status ≡ NoMemory))
IsWhole (Some Configs) left source_failed sink_failed status = ¬ sink_failed → (status ≡ Ok) ⊎ (status ≡ NoMemory)
IsWhole (Some (Generate lines threads seed)) left source_failed sink_failed status = ¬ sink_failed → (status ≡ Ok) ⊎ (status ≡ NoMemory)
IsWhole (Some (Compose width height)) left source_failed sink_failed status = WhereTold left (λ b. ¬ source_failed → ¬ sink_failed → ((frames_answer width height b).status ≡ status) ⊎ (status ≡ NoMemory))
IsWhole (Some Scene) left source_failed sink_failed status = WhereTold left (λ b. ¬ source_failed → ¬ sink_failed → ((scene_answer b).status ≡ status) ⊎ (status ≡ NoMemory))
IsWhole (Some Races) left source_failed sink_failed status = WhereTold left (λ b. ¬ source_failed → ¬ sink_failed → ((races_answer b).status ≡ status) ⊎ (status ≡ NoMemory))
