use Rattle.std.proofs.Common.{◌≤◌, refl, subst}
use Rattle.words.specs.Tasks.{task_of}
use Rattle.oriedit.specs.Run.{turns_of}
use Rattle.oriedit.proofs.Meaning.{means_script, means_serve, means_kept_serve}
use Rattle.oriedit.proofs.program.run_asked.Goals as goal

pub generate-requires : goal.generate-requires
generate-requires g c = subst (λ a. turns_of (task_of a) ≤ 100000) c.in-Generate.is c.requires.turns

pub returns-in-Some-clause-means : goal.returns-in-Some-clause-means
returns-in-Some-clause-means g c =
    means_script _ _ _ _ _ _ c.in-Some.path c.in-Script.is c.in-Some.is (c.kept_script.ensures.script _)

pub returns-in-None-keep-clause-means : goal.returns-in-None-keep-clause-means
returns-in-None-keep-clause-means g c =
    means_serve _ _ _ _ _ _ _ _ c.in-Serve.is c.in-None-keep.is
    (record {
      source = record { left = refl; takes = refl };
      sink = record { held = refl; puts = refl };
      path_is = c.serve.ensures.keeper_path;
      ends = c.serve.ensures.serves;
    })

pub returns-in-Some-keep-clause-means : goal.returns-in-Some-keep-clause-means
returns-in-Some-keep-clause-means g c =
    means_kept_serve _ _ _ _ _ _ _ _ c.in-Some-keep.path c.in-Serve.is c.in-Some-keep.is
    (c.kept_serve.ensures.serves _ _ _ _)
