pub mod ProgramExamples
