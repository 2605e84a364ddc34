-- What `scene` says to a scene, and what that is worth.
use Rattle.std.proofs.Common.{◌≡◌, ℕ, List, sym, subst, ◌∙◌, Option, Some, Ok, inl, inr}
use Rattle.trace_reader.specs.Grammar.{trace}
use Rattle.scene_reader.specs.Grammar.{scene}
use Rattle.scene_reader.specs.Scenes.{SceneValue}
use Rattle.sprite_scene.specs.Calls.{calls_of}
use Rattle.sprite_scene.specs.Runs.{Draws}
use Rattle.scene_trace.specs.Lines.{scene_text, trace_of}
use Rattle.egl_flow.specs.declared.statuses.Status.{Status}
use Rattle.egl_flow.specs.declared.statuses.Status.TheVariants.{Ok as Fine, WriteFault, NoMemory}
use Rattle.egl_cli.specs.declared.commands.Command.TheVariants.{Scene}
use Rattle.egl_cli.specs.Answers.{drawn, scene_answer}
use Rattle.egl_cli.specs.Inputs.{WasRead}
use Rattle.egl_cli.specs.Says.{WroteIfMade, Says, IsDrawn, IsHeadline}
use Rattle.egl_cli.proofs.AnswerLaws.{scene_is}
use Rattle.egl_cli.proofs.SaysLaws.{where_told, read_whole, answered, meant, ended, wanted}

module _ (left rest : Option (List ℕ)) (source_failed : Type 0) (before after : Option (List ℕ)) (sink_failed : Type 0) where
  abbrev Promises : Status → Type 0
  Promises result = Says (Some Scene) left rest source_failed before after sink_failed result

  pub says_scene : (s : SceneValue) (bytes : List ℕ) (result : Status) → WasRead left rest bytes → scene bytes ≡ Ok s → WroteIfMade before (scene_text s) after sink_failed Fine result → Promises result
  says_scene s bytes result r h (inl (inl q)) = subst Promises (sym q.0) (r.ended, answered scene_answer left before after (drawn s) (read_whole scene drawn (Some Scene) scene_is left rest bytes (Ok s) r h) q.1)
  says_scene s bytes result r h (inl (inr q)) =
      ended left rest source_failed before after sink_failed (Some Scene) (scene_text s) result (meant (Some Scene) tt left source_failed (drawn s) (read_whole scene drawn (Some Scene) scene_is left rest bytes (Ok s) r h)) q
  says_scene s bytes result r h (inr q) = wanted left rest source_failed before after sink_failed (Some Scene) result q

-- ---- What status Ok is worth.
module _ (left rest before after : Option (List ℕ)) (failed : Type 0) (bytes : List ℕ) (result : Status) (r : WasRead left rest bytes) (s : SceneValue) (h : scene bytes ≡ Ok s) where
  pub headline_scene : trace (scene_text s) ≡ Ok (trace_of (calls_of s)) → Draws s (calls_of s) → WroteIfMade before (scene_text s) after failed Fine result → result ≡ Fine → IsHeadline (Some Scene) left rest before after
  headline_scene spelt draws (inl (inl q)) ok = (r.ended, where_told (λ b. IsDrawn b before after) left rest bytes r (s, r.within, h, (scene_text s, spelt, draws, q.1)))
  headline_scene spelt draws (inl (inr q)) ok = absurd (let f : WriteFault ≡ Fine = sym q.0 ∙ ok in cc)
  headline_scene spelt draws (inr q) ok = absurd (let f : NoMemory ≡ Fine = sym q.0 ∙ ok in cc)
